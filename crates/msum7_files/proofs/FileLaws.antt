-- A file of a shelf that is read.
use Rattle.std.proofs.{Common.{◌≡◌, ◌≤◌, ◌<◌, ◌∙◌, ℕ, List, [], length, take, sym, ap, subst, arith}, lemmas.List.length-take-le}
use Rattle.diy_io.specs.{Shelf.{ShelfSeen, IsReading, Gave}, Taken.{SourceSeen, Took, NotEnded}}
use Rattle.msum7_files.specs.{declared.feeding.Feeding.Feeding, LogFiles.log_seen, FileFeeding.{ReadSoFar, ReadWhole}}
use Rattle.diy_io.proofs.EndLaws.{end_counted, no_end_counted}
use Rattle.msum7_files.proofs.FeedingLaws.{reads_whole}

-- the bytes that a shelf gave were taken
pub gave_took : (old new : ShelfSeen) (bytes : List ℕ) (room : ℕ) → Gave old new bytes room → Took (log_seen old) (log_seen new) bytes
gave_took old new bytes room gave = record { consumed = gave.consumed; counted = gave.taken }

-- the file is still open
pub gave_mode : (old new : ShelfSeen) (bytes : List ℕ) (room : ℕ) → Gave old new bytes room → IsReading new.mode
gave_mode old new bytes room gave = subst IsReading (sym gave.mode) tt

-- a read that gives nothing
pub gave_whole : (old : SourceSeen) (mid new : ShelfSeen) (feeding : Feeding) (logs : List (List ℕ)) (buf : List ℕ) (n : ℕ)
    → ReadSoFar old (log_seen mid) feeding logs → n ≤ length buf → Gave mid new (take n buf) (length buf) → n ≡ 0 → 0 < length buf
    → ReadWhole old (log_seen new) feeding logs
gave_whole old mid new feeding logs buf n r h gave zero some =
    let none : take n buf ≡ [] = ap (λ k. take k buf) zero in
    reads_whole old (log_seen mid) (log_seen new) feeding logs (take n buf) r (gave_took mid new (take n buf) (length buf) gave) none
    (gave.end (ap length none) some) (gave.ends ∙ end_counted mid.ends (length buf) (length (take n buf)) (ap length none) some) gave.no_fault

-- a read that gives something doesn't count an end
pub gave_more : (old new : ShelfSeen) (buf : List ℕ) (n room : ℕ) → Gave old new (take n buf) room → n ≤ length buf → (n ≡ 0 → ⊥) → NotEnded (log_seen old) (log_seen new)
gave_more old new buf n room gave h some =
    let size : length (take n buf) ≡ n = length-take-le n buf h in
    gave.ends ∙ no_end_counted old.ends room (length (take n buf)) (omega (arith, some))
