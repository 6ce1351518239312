-- Laws of a summer that was fed in pieces, which log_sum proves for itself, stated again for the crates above.
use Rattle.log_sum_laws.proofs.Vocabulary.{◌≡◌, List, [], ◌∷◌, ◌++◌, Ok, Err, ℕ, LogError, Kept, Represents, kept_text, kept_table, logs_text, logs_table}
use Rattle.log_sum.specs.Sieving.{SumOfKept}
use Rattle.log_sum.proofs.RepresentingLaws as proved
use Rattle.log_sum.proofs.SievedLaws as sieved

-- the printed sum of what represents whole logs is theirs
pub represented_text : (kept : Kept) (files : List (List ℕ)) → Represents kept files [] → logs_text files ≡ Ok (kept_text kept)
represented_text kept files represents = proved.represented_text kept files represents

-- and so is the printed table
pub represented_table : (kept : Kept) (files : List (List ℕ)) → Represents kept files [] → logs_table files ≡ Ok (kept_table kept)
represented_table kept files represents = proved.represented_table kept files represents

-- an error of whole logs stays the first error, whatever logs follow
pub end_fault_stays : (files more : List (List ℕ)) (bytes : List ℕ) (error : LogError)
    → logs_text (files ++ bytes ∷ []) ≡ Err error → logs_text (files ++ bytes ∷ more) ≡ Err error
end_fault_stays files more bytes error e = proved.end_fault_stays files more bytes error e

-- what a summer that leaves out blocks with errors prints of whole logs is the sum of what is kept of them
pub sum_of_kept : SumOfKept
sum_of_kept = sieved.sum_of_kept
