-- A block with an error costs itself alone.
use Rattle.std.proofs.Common.{◌≡◌, ℕ, ◌+◌, List, [], ◌∷◌, ◌++◌, true, false, refl, sym, ap, ◌∙◌, subst, arith, append_assoc, append-nil}
use Rattle.std.proofs.{lemmas.List.Sums.fold-append, lemmas.List.map-append}
use Rattle.std.specs.{Prelude.{map, fold, Result, Ok, Err}, List.{AllByRecursion, list_any, slice_split}}
use Rattle.list_laws.proofs.Cases.{by_test}
use Rattle.text_parts.specs.{Lines.{is_line_feed, but_last, last_of, whole_lines, unended, last_line}, ReadingSteps.◌>>=◌}
use Rattle.text_parts.proofs.PieceLaws.{first_piece, split_append, but_last_append, last_append}
use Rattle.log_sum.specs.declared.{errors.LogError.LogError, kinds.Place.TheVariants.Outside}
use Rattle.log_sum.specs.{Facts.Entry, LogGrammar.all_judged, Representing.logs_text}
use Rattle.log_sum.specs.LogReading.{LogSeen, nothing_seen, line_judged, lines_judged, last_judged, end_judged, file_judged, files_judged}
use Rattle.log_sum.specs.Skipping.{lines_with_ends, opens, Piece, with_line, begun_after, pieces_from, pieces_of, all_pieces, Skipped, Sifted, nothing_sifted, sifted_by, with_piece, sifted, IsBlock, BeginsBlock, IsWrong, CostsItself, SkippingLaws}
use Rattle.log_sum.proofs.ReadingLaws.{is_one_line}
use Rattle.log_sum.proofs.Grammar.{between, judged_text}
use Rattle.log_sum.proofs.SiftLaws.{Right, right_text, judged_right, Keeps, InPiece, piece_ends, begun_in, line_in, line_opens, last_opens, lines_sifted, whole_are_lines, unended_is_line, begins_in, log_sifted, logs_sifted, end_entries, kept_none, whole_kept}

-- ===== the lines of two texts, of which the first ends with a line feed
abbrev concat : List (List ℕ) → List ℕ
concat [] = []
concat (line ∷ lines) = line ++ concat lines

split_two : (a b : List ℕ) → unended a ≡ [] → slice_split is_line_feed (a ++ b) ≡ but_last (slice_split is_line_feed a) ++ slice_split is_line_feed b
unfolding unended
split_two a b h = let f = first_piece is_line_feed b in
    split_append is_line_feed a b f.piece f.rest f.is ∙ ap (λ l. but_last (slice_split is_line_feed a) ++ (l ++ f.piece) ∷ f.rest) h
    ∙ ap (λ x. but_last (slice_split is_line_feed a) ++ x) (sym f.is)

whole_two : (a b : List ℕ) → unended a ≡ [] → whole_lines (a ++ b) ≡ whole_lines a ++ whole_lines b
unfolding whole_lines
whole_two a b h = let f = first_piece is_line_feed b in
    ap but_last (split_two a b h) ∙ ap (λ x. but_last (but_last (slice_split is_line_feed a) ++ x)) f.is
    ∙ but_last_append (but_last (slice_split is_line_feed a)) f.piece f.rest ∙ ap (λ x. but_last (slice_split is_line_feed a) ++ but_last x) (sym f.is)

unended_two : (a b : List ℕ) → unended a ≡ [] → unended (a ++ b) ≡ unended b
unfolding unended
unended_two a b h = let f = first_piece is_line_feed b in
    ap last_of (split_two a b h) ∙ ap (λ x. last_of (but_last (slice_split is_line_feed a) ++ x)) f.is
    ∙ last_append (but_last (slice_split is_line_feed a)) f.piece f.rest ∙ ap last_of (sym f.is)

lines_two : (a b : List ℕ) → unended a ≡ [] → lines_with_ends (a ++ b) ≡ lines_with_ends a ++ lines_with_ends b
lines_two a b h =
    rw (
      whole_two a b h,
      unended_two a b h,
      h,
      append-nil (map (λ (line : List ℕ). line ++ 10 ∷ []) (whole_lines a)),
      map-append (λ (line : List ℕ). line ++ 10 ∷ []) (whole_lines a) (whole_lines b),
      append_assoc (map (λ (line : List ℕ). line ++ 10 ∷ []) (whole_lines a)) (map (λ (line : List ℕ). line ++ 10 ∷ []) (whole_lines b)) (last_line (unended b)),
    ) refl

-- ===== the lines of a text are the text
abbrev joined : List (List ℕ) → List ℕ
joined [] = []
joined (piece ∷ []) = piece
joined (piece ∷ next ∷ rest) = (piece ++ 10 ∷ []) ++ joined (next ∷ rest)

onto_joined : (byte : ℕ) (piece : List ℕ) (rest : List (List ℕ)) → joined ((byte ∷ piece) ∷ rest) ≡ byte ∷ joined (piece ∷ rest)
onto_joined byte piece [] = refl
onto_joined byte piece (next ∷ rest) = refl

feed_is : (byte : ℕ) → is_line_feed byte ≡ true → byte ≡ 10
feed_is byte h = grind arith

split_joined : (bytes : List ℕ) → joined (slice_split is_line_feed bytes) ≡ bytes
split_joined [] = refl
split_joined (byte ∷ bytes) = let f = first_piece is_line_feed bytes in
    let further : joined (f.piece ∷ f.rest) ≡ bytes = ap joined (sym f.is) ∙ split_joined bytes in
    by_test (is_line_feed byte)
    (λ e. rw (e, f.is) (ap (λ x. 10 ∷ x) further ∙ ap (λ b. b ∷ bytes) (sym (feed_is byte e))))
    (λ e. rw (e, f.is) (onto_joined byte f.piece f.rest ∙ ap (λ x. byte ∷ x) further))

pieces_joined : (pieces : List (List ℕ)) → concat (map (λ line. line ++ 10 ∷ []) (but_last pieces) ++ last_line (last_of pieces)) ≡ joined pieces
pieces_joined [] = refl
pieces_joined ([] ∷ []) = refl
pieces_joined ((b ∷ piece) ∷ []) = append-nil (b ∷ piece)
pieces_joined (piece ∷ next ∷ rest) = ap (λ x. (piece ++ 10 ∷ []) ++ x) (pieces_joined (next ∷ rest))

lines_are : (bytes : List ℕ) → concat (lines_with_ends bytes) ≡ bytes
unfolding whole_lines unended
lines_are bytes = pieces_joined (slice_split is_line_feed bytes) ∙ split_joined bytes

-- ===== lines of which none opens a block go on the piece
other_lines : (piece : Piece) (others ls : List (List ℕ)) → list_any opens others ≡ false
    → pieces_from piece (others ++ ls) ≡ pieces_from (record piece { bytes = piece.bytes ++ concat others }) ls
other_lines piece [] ls h = rw (append-nil piece.bytes) refl
other_lines piece (line ∷ others) ls h =
    by_test (opens line)
    (λ o. absurd (grind arith))
    (λ o. rw (o, sym (append_assoc piece.bytes line (concat others))) (other_lines (with_line piece line) others ls (rw o at h)))

-- ===== one piece is left out, and all others are kept
pub record KeepsBut (s s' : Sifted) (entries : List Entry) : Type 0 where
  pub one : Skipped
  pub skipped : s'.skipped ≡ s.skipped ++ one ∷ []
  pub right : Right s'.kept entries

left_out : (s : Sifted) (p : Piece) (entries : List Entry) → Right s.kept entries → IsWrong p.bytes → KeepsBut s (with_piece s p) entries
left_out s p entries r w = by_judged (all_judged (s.kept ++ p.bytes ∷ [])) refl
  where
    by_judged : (j : Result (List Entry) LogError) → all_judged (s.kept ++ p.bytes ∷ []) ≡ j → KeepsBut s (sifted_by s p j) entries
    by_judged (Ok more) e = absurd (w s.kept _ (right_text (s.kept ++ p.bytes ∷ []) more (judged_right (s.kept ++ p.bytes ∷ []) more e)))
    by_judged (Err error) e = record { one = _; skipped = refl; right = r }

but_then : (s s' s'' : Sifted) (entries more : List Entry) → KeepsBut s s' entries → Keeps s' s'' more → KeepsBut s s'' more
but_then s s' s'' entries more a b = record { one = a.one; skipped = b.skipped ∙ a.skipped; right = b.right }

then_but : (s s' s'' : Sifted) (entries more : List Entry) → Keeps s s' entries → KeepsBut s' s'' more → KeepsBut s s'' more
then_but s s' s'' entries more a b = record { one = b.one; skipped = b.skipped ∙ ap (λ x. x ++ b.one ∷ []) a.skipped; right = b.right }

-- the rest of a log begins with a block, or is empty, so the piece before it ends outside the blocks
rest_outside : (ws : List (List ℕ)) (last : List ℕ) (m n t : LogSeen) → AllByRecursion (λ line. is_one_line line ≡ true) ws → is_one_line last ≡ true
    → BeginsBlock (map (λ line. line ++ 10 ∷ []) ws ++ last_line last)
    → (lines_judged m ws >>= λ x. last_judged x last) ≡ Ok n → end_judged n ≡ Ok t → m.place ≡ Outside
unfolding last_judged
rest_outside [] [] m n t a h b e f = let same : m ≡ n = cc in rw same (grind arith)
rest_outside [] (byte ∷ last) m n t a h b e f = absurd (last_opens m n t byte last h b e f)
rest_outside (w ∷ ws) last m n t a h b e f = by_read (line_judged m w) refl e
  where
    by_read : (read : Result LogSeen LogError) → line_judged m w ≡ read → ((read >>= λ x. lines_judged x ws) >>= λ x. last_judged x last) ≡ Ok n → m.place ≡ Outside
    by_read (Err error) g k = absurd (cc)
    by_read (Ok m') g k = line_opens m m' w a.0 b g

-- after a block that is left out the rest of the log is kept
rest_sifted : (ws : List (List ℕ)) (last : List ℕ) (s : Sifted) (q : Piece) (m n t : LogSeen) → AllByRecursion (λ line. is_one_line line ≡ true) ws → is_one_line last ≡ true
    → Right s.kept m.entries → m.place ≡ Outside → IsWrong q.bytes → BeginsBlock (map (λ line. line ++ 10 ∷ []) ws ++ last_line last)
    → (lines_judged m ws >>= λ x. last_judged x last) ≡ Ok n → end_judged n ≡ Ok t
    → KeepsBut s (fold with_piece s (pieces_from q (map (λ line. line ++ 10 ∷ []) ws ++ last_line last))) n.entries
unfolding last_judged
rest_sifted [] [] s q m n t a h r o w b e f = let same : m ≡ n = cc in subst (λ x. KeepsBut s (with_piece s q) x.entries) same (left_out s q m.entries r w)
rest_sifted [] (byte ∷ last) s q m n t a h r o w b e f = absurd (last_opens m n t byte last h b e f)
rest_sifted (line ∷ ws) last s q m n t a h r o w b e f = by_read (line_judged m line) refl e
  where
    by_read : (read : Result LogSeen LogError) → line_judged m line ≡ read → ((read >>= λ x. lines_judged x ws) >>= λ x. last_judged x last) ≡ Ok n
        → KeepsBut s (fold with_piece s (pieces_from q (map (λ line. line ++ 10 ∷ []) (line ∷ ws) ++ last_line last))) n.entries
    by_read (Err error) g k = absurd (cc)
    by_read (Ok m') g k =
        let out = left_out s q m.entries r w in
        let further = lines_sifted ws last (with_piece s q) (begun_after q (line ++ 10 ∷ [])) m.entries m' n t a.1 h out.right (begun_in s q m m' line a.0 o g) k f in
        rw b (but_then s (with_piece s q) _ m.entries n.entries out further)

-- the rest of the lines of a log before a block, the block, and the lines after it
but_block : (hs ws : List (List ℕ)) (last block : List ℕ) (b : IsBlock block) (s : Sifted) (p : Piece) (entries : List Entry) (m n t : LogSeen)
    → AllByRecursion (λ line. is_one_line line ≡ true) hs → AllByRecursion (λ line. is_one_line line ≡ true) ws → is_one_line last ≡ true
    → Right s.kept entries → InPiece p entries m → IsWrong block → BeginsBlock (map (λ line. line ++ 10 ∷ []) ws ++ last_line last)
    → (lines_judged m (hs ++ ws) >>= λ x. last_judged x last) ≡ Ok n → end_judged n ≡ Ok t
    → KeepsBut s (fold with_piece s (pieces_from p (map (λ line. line ++ 10 ∷ []) hs ++ (lines_with_ends block ++ (map (λ line. line ++ 10 ∷ []) ws ++ last_line last))))) n.entries
but_block [] ws last block b s p entries m n t a c h r i w g e f =
    let rest : List (List ℕ) = map (λ line. line ++ 10 ∷ []) ws ++ last_line last in
    let out : m.place ≡ Outside = rest_outside ws last m n t c h g e f in
    let kept : Keeps s (with_piece s p) m.entries = piece_ends s p entries m (between m.entries) r i (grind arith) in
    let q : Piece = record (begun_after p b.first) { bytes = b.first ++ concat b.others } in
    let whole : b.first ++ concat b.others ≡ block = ap concat (sym b.lines) ∙ lines_are block in
    let further : KeepsBut (with_piece s p) (fold with_piece (with_piece s p) (pieces_from q rest)) n.entries =
    rest_sifted ws last (with_piece s p) q m n t c h kept.right out (subst IsWrong (sym whole) w) g e f in
    rw (b.lines, b.begins, other_lines (begun_after p b.first) b.others rest b.no_other) (then_but s (with_piece s p) _ m.entries n.entries kept further)
but_block (line ∷ hs) ws last block b s p entries m n t a c h r i w g e f =
    by_read (λ s' p' entries' m' r' i' k'. but_block hs ws last block b s' p' entries' m' n t a.1 c h r' i' w g k' f) (line_judged m line) refl e
  where
    by_read : ((s' : Sifted) (p' : Piece) (entries' : List Entry) (m' : LogSeen) → Right s'.kept entries' → InPiece p' entries' m'
        → (lines_judged m' (hs ++ ws) >>= λ x. last_judged x last) ≡ Ok n
        → KeepsBut s' (fold with_piece s' (pieces_from p' (map (λ line. line ++ 10 ∷ []) hs ++ (lines_with_ends block ++ (map (λ line. line ++ 10 ∷ []) ws ++ last_line last))))) n.entries)
        → (read : Result LogSeen LogError) → line_judged m line ≡ read → ((read >>= λ x. lines_judged x (hs ++ ws)) >>= λ x. last_judged x last) ≡ Ok n
        → KeepsBut s (fold with_piece s (pieces_from p (map (λ line. line ++ 10 ∷ []) (line ∷ hs) ++ (lines_with_ends block ++ (map (λ line. line ++ 10 ∷ []) ws ++ last_line last))))) n.entries
    by_read on (Err error) j k = absurd (cc)
    by_read on (Ok m') j k =
        by_test (opens (line ++ 10 ∷ []))
        (λ o.
        let out : m.place ≡ Outside = line_opens m m' line a.0 o j in
        let kept : Keeps s (with_piece s p) m.entries = piece_ends s p entries m (between m.entries) r i (grind arith) in
        let further = on (with_piece s p) (begun_after p (line ++ 10 ∷ [])) m.entries m' kept.right (begun_in s p m m' line a.0 out j) k in
        rw o (then_but s (with_piece s p) _ m.entries n.entries kept further))
        (λ o. rw o (on s (with_line p (line ++ 10 ∷ [])) entries m' r (line_in p entries m m' line a.0 i j) k))

-- a log with a block between two parts
log_but : (head block rest : List ℕ) (k : ℕ) (s : Sifted) (entries : List Entry) (t : LogSeen) → unended head ≡ [] → IsBlock block → IsWrong block → BeginsBlock (lines_with_ends rest)
    → Right s.kept entries → file_judged (between entries) (head ++ rest) ≡ Ok t
    → KeepsBut s (fold with_piece s (pieces_of k (head ++ (block ++ rest)))) t.entries
unfolding file_judged
log_but head block rest k s entries t h b w g r e =
    by_read (lines_judged (between entries) (whole_lines head ++ whole_lines rest) >>= λ x. last_judged x (unended rest)) refl
    (ap (λ ls. (lines_judged (between entries) ls >>= λ x. last_judged x (unended rest)) >>= end_judged) (sym (whole_two head rest h))
    ∙ ap (λ u. (lines_judged (between entries) (whole_lines (head ++ rest)) >>= λ x. last_judged x u) >>= end_judged) (sym (unended_two head rest h)) ∙ e)
  where
    cut : lines_with_ends (head ++ (block ++ rest)) ≡ map (λ line. line ++ 10 ∷ []) (whole_lines head) ++ (lines_with_ends block ++ lines_with_ends rest)
    cut = lines_two head (block ++ rest) h ∙ ap (λ x. lines_with_ends head ++ x) (lines_two block rest b.ended)
        ∙ ap (λ x. (map (λ line. line ++ 10 ∷ []) (whole_lines head) ++ last_line x) ++ (lines_with_ends block ++ lines_with_ends rest)) h
        ∙ ap (λ x. x ++ (lines_with_ends block ++ lines_with_ends rest)) (append-nil (map (λ line. line ++ 10 ∷ []) (whole_lines head)))

    by_read : (read : Result LogSeen LogError) → (lines_judged (between entries) (whole_lines head ++ whole_lines rest) >>= λ x. last_judged x (unended rest)) ≡ read → (read >>= end_judged) ≡ Ok t
        → KeepsBut s (fold with_piece s (pieces_of k (head ++ (block ++ rest)))) t.entries
    by_read (Err error) j f = absurd (cc)
    by_read (Ok n) j f =
        rw (end_entries n t f, cut)
        (but_block (whole_lines head) (whole_lines rest) (unended rest) block b s (record { log = k; lines_before = 0; bytes = [] }) entries (between entries) n t
        (whole_are_lines head) (whole_are_lines rest) (unended_is_line rest) r (begins_in k entries) w g j f)

-- logs, one of which has a block between two parts
logs_but : (before after : List (List ℕ)) (head block rest : List ℕ) (k : ℕ) (s : Sifted) (entries : List Entry) (t : LogSeen) → unended head ≡ [] → IsBlock block → IsWrong block
    → BeginsBlock (lines_with_ends rest) → Right s.kept entries → files_judged (between entries) (before ++ (head ++ rest) ∷ after) ≡ Ok t
    → KeepsBut s (fold with_piece s (all_pieces k (before ++ (head ++ (block ++ rest)) ∷ after))) t.entries
logs_but [] after head block rest k s entries t h b w g r e = by_read (file_judged (between entries) (head ++ rest)) refl e
  where
    by_read : (read : Result LogSeen LogError) → file_judged (between entries) (head ++ rest) ≡ read → (read >>= λ x. files_judged x after) ≡ Ok t
        → KeepsBut s (fold with_piece s (all_pieces k ((head ++ (block ++ rest)) ∷ after))) t.entries
    by_read (Err error) j f = absurd (cc)
    by_read (Ok m) j f =
        let same = (log_sifted (head ++ rest) k s entries m r j).1 in
        let one = log_but head block rest k s entries m h b w g r j in
        let mid : Sifted = fold with_piece s (pieces_of k (head ++ (block ++ rest))) in
        let further : Keeps mid (fold with_piece mid (all_pieces (k + 1) after)) t.entries =
        logs_sifted after (k + 1) mid m.entries t one.right (ap (λ x. files_judged x after) (sym same) ∙ f) in
        rw (fold-append with_piece s (pieces_of k (head ++ (block ++ rest))) (all_pieces (k + 1) after)) (but_then s mid _ m.entries t.entries one further)
logs_but (log ∷ before) after head block rest k s entries t h b w g r e =
    by_read (λ s' entries' r' e'. logs_but before after head block rest (k + 1) s' entries' t h b w g r' e') (file_judged (between entries) log) refl e
  where
    by_read : ((s' : Sifted) (entries' : List Entry) → Right s'.kept entries' → files_judged (between entries') (before ++ (head ++ rest) ∷ after) ≡ Ok t
        → KeepsBut s' (fold with_piece s' (all_pieces (k + 1) (before ++ (head ++ (block ++ rest)) ∷ after))) t.entries)
        → (read : Result LogSeen LogError) → file_judged (between entries) log ≡ read → (read >>= λ x. files_judged x (before ++ (head ++ rest) ∷ after)) ≡ Ok t
        → KeepsBut s (fold with_piece s (all_pieces k ((log ∷ before) ++ (head ++ (block ++ rest)) ∷ after))) t.entries
    by_read on (Err error) j f = absurd (cc)
    by_read on (Ok m) j f =
        let one = log_sifted log k s entries m r j in
        let mid : Sifted = fold with_piece s (pieces_of k log) in
        let further = on mid m.entries one.0.right (ap (λ x. files_judged x (before ++ (head ++ rest) ∷ after)) (sym one.1) ∙ f) in
        rw (fold-append with_piece s (pieces_of k log) (all_pieces (k + 1) (before ++ (head ++ (block ++ rest)) ∷ after))) (then_but s mid _ m.entries t.entries one.0 further)

-- a block with an error costs itself alone
pub costs_itself : (before after : List (List ℕ)) (head block rest text : List ℕ) → unended head ≡ [] → IsBlock block → BeginsBlock (lines_with_ends rest)
    → IsWrong block → logs_text (before ++ (head ++ rest) ∷ after) ≡ Ok text → CostsItself (before ++ (head ++ (block ++ rest)) ∷ after) text
costs_itself before after head block rest text h b g w e = by_read (files_judged nothing_seen (before ++ (head ++ rest) ∷ after)) refl
  where
    by_read : (read : Result LogSeen LogError) → files_judged nothing_seen (before ++ (head ++ rest) ∷ after) ≡ read → CostsItself (before ++ (head ++ (block ++ rest)) ∷ after) text
    by_read (Err error) j = absurd (grind (arith, (judged_text (before ++ (head ++ rest) ∷ after))))
    by_read (Ok t) j =
        let k = logs_but before after head block rest 0 nothing_sifted [] t h b w g refl j in
        record {
          one = k.one;
          skipped = k.skipped;
          sum = right_text (sifted (before ++ (head ++ (block ++ rest)) ∷ after)).kept t.entries k.right ∙ grind (arith, (judged_text (before ++ (head ++ rest) ∷ after)));
        }

-- the laws of blocks that are left out
pub skipping_laws : SkippingLaws
skipping_laws = record { right = kept_none; whole = whole_kept; alone = costs_itself }
