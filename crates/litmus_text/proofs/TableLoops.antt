-- Reading the table as loops do.
use Rattle.litmus_text.specs.declared.reading.table.Column.{Column as ThreadColumn}
use Rattle.std.proofs.lemmas.List.{append-nil}
use Rattle.litmus_text.proofs.Vocabulary.{BadTable, Bool, Cells, Column, CutParts, EndMissing, Err, Lines, List, MAX_ROWS, MAX_THREADS, Ok, Result, Some, TextError, TooLarge, WithPlaces, Writing, [], add-one, ap, append_assoc, arith, bad, before_columns, cell_read, cells_of, codes, column_seen, cond, cut_at, drop, drop-cons, drop-length, drop-set-lt, ends, ends_rows, false, get_or, get_or-map, head_error, end_error, enumerate_from, flat_map, unless, add-zero, instr_in, instr_or_nothing, is_head, le-ltb, length, length-map, line, lt-ltb, map, map-set, refl, row_read, rows_scanned, set, sym, take, take-append-add, take-length, take_more_set, true, with_places, ℕ, ◌++◌, ◌+◌, ◌<◌, ◌>>=◌, ◌∙◌, ◌∷◌, ◌≡◌, ◌≤◌}

-- the number of threads, by the cells of the header from that of a thread on
abbrev pub heads_from : ℕ → Bool → ℕ → List (List ℕ) → Result ℕ TextError
heads_from n whole k cells = unless (flat_map (head_error n) (enumerate_from k cells) ++ end_error n whole) (k + length cells)

-- where no cell of the header is left, the threads are counted
pub heads_end : (n k : ℕ) (whole : Bool) (ps : List (List ℕ)) → ps ≡ [] → heads_from n whole k ps ≡ cond whole (Ok k) (bad BadTable n)
heads_end n k whole ps e = grind (arith, add-zero)

-- a cell that isn't that of the next thread is an error
pub heads_bad : (n k : ℕ) (whole : Bool) (ps : List (List ℕ)) (cell : List ℕ) (rest : List (List ℕ)) → ps ≡ cell ∷ rest → is_head k cell ≡ false → heads_from n whole k ps ≡ bad BadTable n
heads_bad n k whole ps cell rest e h = rw (e, h) refl

-- a cell of one thread too many is too large
pub heads_full : (n k : ℕ) (whole : Bool) (ps : List (List ℕ)) (cell : List ℕ) (rest : List (List ℕ)) → ps ≡ cell ∷ rest → is_head k cell ≡ true → MAX_THREADS ≤ k
    → heads_from n whole k ps ≡ bad TooLarge n
heads_full n k whole ps cell rest e h f = rw (e, h, le-ltb k MAX_THREADS f) refl

-- after the cell of the next thread the others are read
pub heads_more : (n k : ℕ) (whole : Bool) (ps : List (List ℕ)) (cell : List ℕ) (rest : List (List ℕ)) → ps ≡ cell ∷ rest → is_head k cell ≡ true → k < MAX_THREADS
    → heads_from n whole (k + 1) rest ≡ heads_from n whole k ps
heads_more n k whole ps cell rest e h f = let same : (k + 1) + length rest ≡ k + length (cell ∷ rest) = omega arith in rw (e, h, lt-ltb k MAX_THREADS f, same) refl

-- the columns that were read before others
abbrev pub carried : List Column → Result (WithPlaces (List Column)) TextError → Result (WithPlaces (List Column)) TextError
carried prefix (Ok s) = Ok (with_places s.places (prefix ++ s.value))
carried prefix (Err e) = Err e

carried_more : (prefix : List Column) (column : Column) (r : Result (WithPlaces (List Column)) TextError) → carried (prefix ++ column ∷ []) r ≡ carried prefix (r >>= λ s. Ok (before_columns column s))
carried_more prefix column (x) = grind (arith, append_assoc)

-- after a cell of a row the next cells are read
pub row_more : (w : Writing) (n : ℕ) (whole : Bool) (ps rest : List (List ℕ)) (cell : List ℕ) (names names' : List (List ℕ)) (cs : List Column) (i : ℕ) (d c' : Column) → i < length cs → ps ≡ cell ∷ rest
    → cell_read w n cell (with_places names (get_or cs i d)) ≡ Ok (with_places names' c')
    → carried (take (i + 1) (set cs i c')) (row_read w n whole rest names' (drop (i + 1) (set cs i c'))) ≡ carried (take i cs) (row_read w n whole ps names (drop i cs))
unfolding row_read
row_more w n whole ps rest cell names names' cs i d c' inside e h = grind (arith, take_more_set, drop-set-lt, drop-cons, carried_more)

-- where a cell of a row is faulty, the row is
pub row_fails : (w : Writing) (n : ℕ) (whole : Bool) (ps rest : List (List ℕ)) (cell : List ℕ) (names : List (List ℕ)) (cs prefix : List Column) (i : ℕ) (d : Column) (f : TextError) → i < length cs → ps ≡ cell ∷ rest
    → cell_read w n cell (with_places names (get_or cs i d)) ≡ Err f → carried prefix (row_read w n whole ps names (drop i cs)) ≡ Err f
unfolding row_read
row_fails w n whole ps rest cell names cs prefix i d f inside e h = grind (arith, drop-cons)

-- where a cell of a row is missing, the row is faulty
pub row_short : (w : Writing) (n : ℕ) (whole : Bool) (ps : List (List ℕ)) (names : List (List ℕ)) (cs prefix : List Column) (i : ℕ) (d : Column) → i < length cs → ps ≡ []
    → carried prefix (row_read w n whole ps names (drop i cs)) ≡ bad BadTable n
unfolding row_read
row_short w n whole ps names cs prefix i d inside e =
    let s : drop i cs ≡ get_or cs i d ∷ drop (i + 1) cs = rw add-one (drop-cons cs i d inside) in
    rw (s, e) refl

-- where no column is left and the row ends, the columns are read
pub row_ends : (w : Writing) (n : ℕ) (whole : Bool) (ps : List (List ℕ)) (names : List (List ℕ)) (cs : List Column) (i : ℕ) → i ≡ length cs → row_read w n whole ps names [] ≡ Ok (with_places names [])
    → carried (take i cs) (row_read w n whole ps names (drop i cs)) ≡ Ok (with_places names cs)
row_ends w n whole ps names cs i end e = grind (arith, drop-length, append-nil, take-length)

-- where no column is left and the row doesn't end, the row is faulty
pub row_ends_bad : (w : Writing) (n : ℕ) (whole : Bool) (ps : List (List ℕ)) (names : List (List ℕ)) (cs prefix : List Column) (i : ℕ) (f : TextError) → i ≡ length cs → row_read w n whole ps names [] ≡ Err f
    → carried prefix (row_read w n whole ps names (drop i cs)) ≡ Err f
row_ends_bad w n whole ps names cs prefix i f end e = let s : drop i cs ≡ [] = ap (λ k. drop k cs) end ∙ drop-length cs in rw (s, e) refl

-- after a cell of a row the next cells are read, by columns of the code
pub row_step : (w : Writing) (n : ℕ) (whole : Bool) (ps rest : List (List ℕ)) (cell : List ℕ) (names names' : List (List ℕ)) (xs : List ThreadColumn) (i : ℕ) (d y : ThreadColumn) → i < length xs → ps ≡ cell ∷ rest
    → cell_read w n cell (with_places names (column_seen (get_or xs i d))) ≡ Ok (with_places names' (column_seen y))
    → carried (take (i + 1) (map column_seen (set xs i y))) (row_read w n whole rest names' (drop (i + 1) (map column_seen (set xs i y)))) ≡ carried (take i (map column_seen xs)) (row_read w n whole ps names (drop i (map column_seen xs)))
row_step w n whole ps rest cell names names' xs i d y inside e h =
    let k : i < length (map column_seen xs) = rw length-map inside in
    let g : get_or (map column_seen xs) i (column_seen d) ≡ column_seen (get_or xs i d) = get_or-map column_seen xs i d in
    let h' : cell_read w n cell (with_places names (get_or (map column_seen xs) i (column_seen d))) ≡ Ok (with_places names' (column_seen y)) = rw g h in
    let m : map column_seen (set xs i y) ≡ set (map column_seen xs) i (column_seen y) = map-set column_seen xs i y in
    rw m (row_more w n whole ps rest cell names names' (map column_seen xs) i (column_seen d) (column_seen y) k e h')

-- where a cell of a row is faulty, the row is, by columns of the code
pub row_stops : (w : Writing) (n : ℕ) (whole : Bool) (ps rest : List (List ℕ)) (cell : List ℕ) (names : List (List ℕ)) (xs : List ThreadColumn) (prefix : List Column) (i : ℕ) (d : ThreadColumn) (f : TextError) → i < length xs → ps ≡ cell ∷ rest
    → cell_read w n cell (with_places names (column_seen (get_or xs i d))) ≡ Err f → carried prefix (row_read w n whole ps names (drop i (map column_seen xs))) ≡ Err f
row_stops w n whole ps rest cell names xs prefix i d f inside e h =
    let k : i < length (map column_seen xs) = rw length-map inside in
    let g : get_or (map column_seen xs) i (column_seen d) ≡ column_seen (get_or xs i d) = get_or-map column_seen xs i d in
    let h' : cell_read w n cell (with_places names (get_or (map column_seen xs) i (column_seen d))) ≡ Err f = rw g h in
    row_fails w n whole ps rest cell names (map column_seen xs) prefix i (column_seen d) f k e h'

-- where no line is left, the end of the rows is missing
pub rows_missing : (w : Writing) (k n : ℕ) (s : WithPlaces (List Column)) (ls : Lines) → ends n ≡ ls → rows_scanned w k s ls ≡ bad EndMissing n
unfolding rows_scanned
rows_missing w k n s ls e = rw (sym e) refl

-- a line that ends the rows ends them
pub rows_stop : (w : Writing) (k n : ℕ) (s : WithPlaces (List Column)) (ls rest : Lines) (text : List ℕ) → line n text rest ≡ ls → ends_rows text ≡ true → rows_scanned w k s ls ≡ Ok (s, ls)
unfolding rows_scanned
rows_stop w k n s ls rest text e h = rw (sym e, h) refl

-- one row too many is too large
pub rows_full : (w : Writing) (k n : ℕ) (s : WithPlaces (List Column)) (ls rest : Lines) (text : List ℕ) → line n text rest ≡ ls → ends_rows text ≡ false → MAX_ROWS ≤ k → rows_scanned w k s ls ≡ bad TooLarge n
unfolding rows_scanned
rows_full w k n s ls rest text e h f = rw (sym e, h, le-ltb k MAX_ROWS f) refl

-- where a row is faulty, the rows are
pub rows_fail : (w : Writing) (k n : ℕ) (s : WithPlaces (List Column)) (ls rest : Lines) (text : List ℕ) (cells : Cells) (f : TextError) → line n text rest ≡ ls → ends_rows text ≡ false → k < MAX_ROWS → cells ≡ cells_of text
    → row_read w n cells.whole cells.texts s.places s.value ≡ Err f → rows_scanned w k s ls ≡ Err f
unfolding rows_scanned
rows_fail w k n s ls rest text cells f e h g same r = rw (sym e, h, lt-ltb k MAX_ROWS g, sym same, r) refl

-- after a row the next rows are read
pub rows_more : (w : Writing) (k n : ℕ) (s s' : WithPlaces (List Column)) (ls rest : Lines) (text : List ℕ) (cells : Cells) → line n text rest ≡ ls → ends_rows text ≡ false → k < MAX_ROWS → cells ≡ cells_of text
    → row_read w n cells.whole cells.texts s.places s.value ≡ Ok s' → rows_scanned w (k + 1) s' rest ≡ rows_scanned w k s ls
unfolding rows_scanned
rows_more w k n s s' ls rest text cells e h g same r = rw (sym e, h, lt-ltb k MAX_ROWS g, sym same, r) refl

-- the text up to the colon of a label
pub label_prefix : (text prefix remainder : List ℕ) → CutParts 58 text prefix remainder → take (length prefix + 1) text ≡ prefix ++ codes ":"
label_prefix text prefix remainder p = ap (take (length prefix + 1)) p.parts ∙ take-append-add prefix (58 ∷ remainder) 1

-- a cell that begins with a label is read as the label, and then as what comes after it
pub cell_labelled : (w : Writing) (n : ℕ) (text prefix remainder : List ℕ) (s s' : WithPlaces Column) → Some (prefix, remainder) ≡ cut_at 58 text → CutParts 58 text prefix remainder
    → instr_in w n (take (length prefix + 1) text) s ≡ Ok s' → cell_read w n text s ≡ instr_or_nothing w n remainder s'
unfolding cell_read
cell_labelled w n text prefix remainder s s' e p h = grind (arith, label_prefix)
