-- When an end is counted, and how ends that were seen one after another add up.
use Rattle.std.proofs.{Common.{◌≡◌, ◌+◌, ◌<◌, ◌==◌, ℕ, arith, inl, inr, refl, subst}, lemmas.Bool.Decides.nat_tests}
use Rattle.diy_io.specs.{Count.{count_of, next_count, ends_after}, Opened.{EndsSeen, EndsSeenOrOneMore}, Shelf.ShelfSeen}

-- a read of nothing into space counts an end
pub end_counted : (ends room count : ℕ) → count ≡ 0 → 0 < room → ends_after ends room count ≡ next_count ends
end_counted ends room count none some = grind (arith, nat_tests)

-- a read of bytes counts none
pub no_end_counted : (ends room count : ℕ) → 0 < count → ends_after ends room count ≡ ends
no_end_counted ends room count some = grind (arith, nat_tests)

-- ends that were seen, and then more of them
pub ends_both : (old mid new : ShelfSeen) (first more both : ℕ) → EndsSeen old mid first → EndsSeen mid new more → both ≡ first + more → EndsSeen old new both
ends_both old mid new first more both p q sum = omega arith

-- where the count stays, none was seen
pub no_ends : (old new : ShelfSeen) → new.ends ≡ old.ends → EndsSeen old new 0
no_ends old new same = omega arith

-- where it rises by one, one was seen
pub one_end : (old new : ShelfSeen) → new.ends ≡ next_count old.ends → EndsSeen old new 1
one_end old new once = omega arith

-- ends that were seen, and then none or one
pub ends_or_more : (old mid new : ShelfSeen) (count : ℕ) → EndsSeen old mid count → EndsSeenOrOneMore mid new 0 → EndsSeenOrOneMore old new count
ends_or_more old mid new count before (inl none) = inl (ends_both old mid new count 0 count before none (omega arith))
ends_or_more old mid new count before (inr one) = inr (ends_both old mid new count 1 (count + 1) before one refl)

-- the ends of a file that was opened, and then read
pub ends_of_opened : (old mid new : ShelfSeen) (count : ℕ) → mid.ends ≡ old.ends → EndsSeen mid new count → EndsSeen old new count
ends_of_opened old mid new count same ends = subst (λ e. count_of new.ends ≡ count_of (e + count)) same ends
