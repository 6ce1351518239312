-- Laws for callers: where arguments name logs that have no error, no call finds one, and each finds the same logs.
-- Source: own.
use Rattle.std.proofs.Common.{◌≡◌, ◌≤◌, ◌<◌, ◌+◌, ◌^◌, ◌++◌, ℕ, suc, List, [], ◌∷◌, length, get_or, Option, Some, None, Ok, Err, refl}
use Rattle.std.proofs.Common.{sym, ap, subst, arith, ◌∙◌, length-append}
use Rattle.std.proofs.lemmas.Option.{slice_get-get_or, slice_get_within, get_or_from_slice_get, same_Some}
use Rattle.std.specs.Prelude.{Result, MatchOption, slice_get, slice_index_or}
use Rattle.diy_io.specs.{Opened.IsFile, Count.Rose, Shelf.{Files, ShelfSeen}}
use Rattle.log_sum.specs.{declared.errors.LogError.LogError, Representing.logs_text}
use Rattle.msum7_files.specs.{Logs.{IsShort, IsTooMuch, AreWholeLogs}}
use Rattle.msum7_files.specs.{SumEnds.{AreLogs, IsAtWord, FileTooMuch, LogFileMissing, LogFileWrong}}

-- the arguments from an index on name files that exist, each of at most 2^40 bytes, and as logs they have no error
pub record NameRightLogs (files : Files) (words : List (List ℕ)) (first : ℕ) : Type 0 where
  pub logs : List (List ℕ)
  pub all : first + length logs ≡ length words
  pub are : AreLogs (Some files) words first logs
  pub right : AreWholeLogs logs

-- logs that have a sum have no error
pub right_not_wrong : (logs others : List (List ℕ)) (error : LogError) → AreWholeLogs logs → logs ≡ others → logs_text others ≡ Err error
    → ⊥
right_not_wrong logs others error right e h = let all : Ok right.text ≡ Err error = sym right.is ∙ (ap logs_text e ∙ h) in cc

-- more than 2^40 bytes were taken of a log that is too long
pub long_taken : (before : List (List ℕ)) (log bytes : List ℕ) (line : ℕ) → IsTooMuch before log bytes line → 2 ^ 40 < length bytes
long_taken before log bytes line h =
    let prefix : length h.full.prefix ≡ 2 ^ 40 = h.full.full in
    let more : 0 < length h.full.rest = h.full.more in
    omega (arith, ap length h.full.parts, length-append h.full.prefix h.full.rest)

-- a log of at most 2^40 bytes isn't too long
pub short_not_long : (before : List (List ℕ)) (log bytes : List ℕ) (line : ℕ) → IsShort log → IsTooMuch before log bytes line → ⊥
short_not_long before log bytes line short h =
    let len : length log ≤ 2 ^ 40 = short in
    let more : 2 ^ 40 < length bytes = long_taken before log bytes line h in
    omega (arith, ap length h.up_to.parts, length-append bytes h.up_to.rest)

none_some : {X : Type 0} (x : X) → None ≡ Some x → ⊥
none_some x e = cc e

-- a list that begins as another one does, and then has an element
splits : {X : Type 0} (before all : List X) (x : X) → ((k : ℕ) (y : X) → slice_get before k ≡ Some y → slice_get all k ≡ Some y)
    → slice_get all (length before) ≡ Some x → (more : List X) × (all ≡ before ++ x ∷ more)
splits [] [] x same here = absurd (none_some x here)
splits [] (y ∷ all) x same here = (all, ap (λ z. z ∷ all) (same_Some y x here))
splits (b ∷ before) [] x same here = absurd (none_some b (same 0 b refl))
splits (b ∷ before) (y ∷ all) x same here =
    let rest = splits before all x (λ k z h. same (suc k) z h) here in
    let first = same_Some y b (same 0 b refl) in
    (rest.0, ap (λ z. z ∷ all) first ∙ ap (λ zs. b ∷ zs) rest.1)

-- two lists of one length, where the one begins as the other does
same_list : {X : Type 0} (some all : List X) → ((k : ℕ) (y : X) → slice_get some k ≡ Some y → slice_get all k ≡ Some y)
    → length some ≡ length all → some ≡ all
same_list [] [] same count = refl
same_list [] (y ∷ all) same count = absurd (omega (arith, count))
same_list (b ∷ some) [] same count = absurd (none_some b (same 0 b refl))
same_list (b ∷ some) (y ∷ all) same count =
    ap (λ z. z ∷ some) (sym (same_Some y b (same 0 b refl))) ∙ ap (λ zs. y ∷ zs) (same_list some all (λ k z h. same (suc k) z h) (omega (arith, count)))

shown_file : (shown : Option Files) (files : Files) (name text : List ℕ) → shown ≡ Some files → IsFile shown name text
    → files name ≡ Some text
shown_file shown files name text e h =
    let here : IsFile (Some files) name text = subst (λ (t : Option Files). IsFile t name text) e h in here

module _ (words : List (List ℕ)) (first : ℕ) (files : Files) (right : NameRightLogs files words first) where
  -- at each place from the first on there is a log
  at_word : (k : ℕ) → k < length right.logs → files (get_or words (first + k) []) ≡ Some (get_or right.logs k [])
  at_word k h =
      right.are.named k (get_or words (first + k) []) (get_or right.logs k []) (slice_get-get_or words (first + k) [] (omega (arith, right.all)))
      (slice_get-get_or right.logs k [] h)

  -- the logs that a call found begin those
  begin_those : (shown : Option Files) (before : List (List ℕ)) → shown ≡ Some files → AreLogs shown words first before
      → length before ≤ length right.logs
      → (k : ℕ) (log : List ℕ) → slice_get before k ≡ Some log → slice_get right.logs k ≡ Some log
  begin_those shown before e are few k log h =
      let inside : k < length before = slice_get_within before k log h in
      let found : files (get_or words (first + k) []) ≡ Some log =
      shown_file shown files (get_or words (first + k) []) log e
      (are.named k (get_or words (first + k) []) log (slice_get-get_or words (first + k) [] (omega (arith, right.all))) h) in
      let here : files (get_or words (first + k) []) ≡ Some (get_or right.logs k []) = at_word k (omega arith) in
      slice_get-get_or right.logs k [] (omega arith) ∙ (sym here ∙ found)

  -- all logs that a call found are those
  pub same_logs : (shown : Option Files) (logs : List (List ℕ)) → shown ≡ Some files → AreLogs shown words first logs
      → first + length logs ≡ length words
      → logs ≡ right.logs
  same_logs shown logs e are all =
      same_list logs right.logs (begin_those shown logs e are (omega (arith, all, right.all))) (omega (arith, all, right.all))

  -- a place of a word, and the log that its file has
  word_log : (shown : Option Files) (place : ℕ) (before : List (List ℕ)) (name : List ℕ) → IsAtWord shown words first place before name
      → (length before < length right.logs) × (files name ≡ slice_get right.logs (length before))
  word_log shown place before name h =
      let within : place < length words = slice_get_within words place name h.word in
      let inside : length before < length right.logs = omega (arith, h.count, right.all) in
      let name_is : get_or words (first + length before) [] ≡ name =
      get_or_from_slice_get words (first + length before) name [] (subst (λ (p : ℕ). slice_get words p ≡ Some name) h.count h.word) in (
        inside,
        subst (λ (n : List ℕ). files n ≡ slice_get right.logs (length before)) name_is
            (at_word (length before) inside ∙ sym (slice_get-get_or right.logs (length before) [] inside)),
      )

  -- no log is wrong
  pub no_file_wrong : (old new : ShelfSeen) (place : ℕ) (error : LogError) → old.files ≡ Some files
      → LogFileWrong old new words first place error → ⊥
  no_file_wrong old new place error e h =
      let spot = word_log old.files place h.before h.name h.place_is in
      let parts = splits h.before right.logs h.log
      (begin_those old.files h.before e h.place_is.are (omega (arith, spot.0)))
      (sym spot.1 ∙ shown_file old.files files h.name h.log e h.text) in
      right_not_wrong right.logs (h.before ++ h.log ∷ parts.0) error right.right parts.1 (h.is.wrong parts.0)

  -- none is too long
  pub no_file_long : (old new : ShelfSeen) (place line : ℕ) → old.files ≡ Some files → FileTooMuch old new words first place line → ⊥
  no_file_long old new place line e h =
      let spot = word_log old.files place h.before h.name h.place_is in
      let log_at : slice_get right.logs (length h.before) ≡ Some h.log = sym spot.1 ∙ shown_file old.files files h.name h.log e h.text in
      let log_is : get_or right.logs (length h.before) [] ≡ h.log = get_or_from_slice_get right.logs (length h.before) h.log [] log_at in
      let short : IsShort (slice_index_or right.logs (length h.before) []) = right.are.short (length h.before) [] spot.0 in
      short_not_long h.before h.log h.bytes line (subst (λ (l : List ℕ). IsShort l) log_is short) h.is

  -- none is missing
  pub no_file_missing : (old new : ShelfSeen) (place : ℕ) → old.files ≡ Some files → LogFileMissing old new words first place → ⊥
  no_file_missing old new place e h =
      let spot = word_log old.files place h.before h.name h.place_is in
      let found : files h.name ≡ Some (get_or right.logs (length h.before) []) = spot.1 ∙ slice_get-get_or right.logs (length h.before) [] spot.0 in
      let gone : files h.name ≡ None = absent old.files e h.absent in
      let both : None ≡ Some (get_or right.logs (length h.before) []) = sym gone ∙ found in cc
    where
      absent : (shown : Option Files) → shown ≡ Some files → MatchOption shown (Rose old.faults new.faults) (λ there. there h.name ≡ None)
          → files h.name ≡ None
      absent shown e a =
          let here : MatchOption (Some files) (Rose old.faults new.faults) (λ there. there h.name ≡ None) =
          subst (λ (t : Option Files). MatchOption t (Rose old.faults new.faults) (λ there. there h.name ≡ None)) e a in here
