-- Where the values of two accesses of a thread fall, the execution by values has a cycle of program order at one place,
-- reads-from, coherence order and from-read: one of the shapes CoWW, CoRW1, CoRW2, CoWR and CoRR.
use Rattle.co_tests.proofs.Vocabulary.{◌≡◌, ℕ, zero, suc, ◌<◌, ◌≤◌, List, [], ◌∷◌, Option, Some, slice_get, refl, sym, ◌∙◌, ap, arith, by_same, Dir, WriteAt, Access, read, write, at_name, order_at, slice_get-filter_map-upto, IsWriteTo, ProgramOrder, ReadsFrom, CoherenceOrder, FromRead, IsBefore, Po, Co, Fr, HasCycle}
use Rattle.relax_edges.specs.declared.kinds.Dir.TheVariants as dirs
use Rattle.sc_and_interleavings.specs.Relations.{Rf}
use Rattle.co_tests.proofs.OnePlace.{Numbered, by_value, by_values, gives_once, by_values_source}

-- write number k is at place k of the order
in_order : (threads : List (List Access)) (g : ℕ → Option WriteAt) (n k : ℕ) (w : WriteAt) → Numbered threads g n → k < n → g k ≡ Some w
    → slice_get (order_at (by_values threads g n) 0) k ≡ Some w
in_order threads g n k w r h e = slice_get-filter_map-upto g n k (gives_once threads g n r).some h ∙ e

-- of two writes the one of the lower number comes before the other
ordered : (threads : List (List Access)) (g : ℕ → Option WriteAt) (n j k : ℕ) (v w : WriteAt) → Numbered threads g n → j < k → k < n → g j ≡ Some v
    → g k ≡ Some w → CoherenceOrder (by_values threads g n) 0 v w
ordered threads g n j k v w r less h e f = record {
  earlier = j;
  later = k;
  first = in_order threads g n j v r (omega arith) e;
  second = in_order threads g n k w r h f;
  before = less;
}

-- a write of a value comes after what a lower value names
before : (threads : List (List Access)) (g : ℕ → Option WriteAt) (n v k : ℕ) (w : WriteAt) → Numbered threads g n → v ≤ k → k < n → g k ≡ Some w
    → IsWriteTo threads 0 w → IsBefore threads (by_values threads g n) 0 (by_value g v) w
before threads g n zero k w r less h e is = is
before threads g n (suc j) k w r less h e is = grind (arith, ordered threads g n j k)

-- a read reads from before a write of a higher value
from_before : (threads : List (List Access)) (g : ℕ → Option WriteAt) (n v k : ℕ) (f w : WriteAt) → Numbered threads g n → at_name threads f ≡ Some (read 0 v)
    → v ≤ k → k < n → g k ≡ Some w → IsWriteTo threads 0 w
    → FromRead threads (by_values threads g n) f w
from_before threads g n v k f w r h less l e is = grind (arith, before threads g n v k w r less l e is, by_values_source threads g n f (read 0 v) h refl)

-- a read reads the write of its value
from_write : (threads : List (List Access)) (g : ℕ → Option WriteAt) (n k : ℕ) (e w : WriteAt) → at_name threads e ≡ Some (read 0 (suc k)) → g k ≡ Some w
    → ReadsFrom threads (by_values threads g n) w e
from_write threads g n k e w h named = grind (arith, by_values_source threads g n e (read 0 (suc k)) h refl)

-- two accesses of a thread, the first before the second
record IsPair (threads : List (List Access)) (e f : WriteAt) : Type 0 where
  thread : e.thread ≡ f.thread
  earlier : e.access < f.access

follows : (threads : List (List Access)) (e f : WriteAt) (a b : Access) → IsPair threads e f → at_name threads e ≡ Some a → at_name threads f ≡ Some b
    → a.place ≡ 0 → b.place ≡ 0 → ProgramOrder threads e f
follows threads e f a b pair h k p q = record { place = 0; first = (a, h, p); second = (b, k, q); thread = pair.thread; earlier = pair.earlier }

-- CoWW: the write of a thread's later access comes before that of its earlier one
after_write : (threads : List (List Access)) (g : ℕ → Option WriteAt) (n u v : ℕ) (e f : WriteAt) → Numbered threads g n → IsPair threads e f
    → at_name threads e ≡ Some (write 0 u) → at_name threads f ≡ Some (write 0 v) → v ≤ u
    → HasCycle threads (by_values threads g n)
after_write threads g n u v e f r pair h k less =
    let i = r.writes e 0 u h in
    let j = r.writes f 0 v k in
    by_same j.rank i.rank
    (λ same. let t : e ≡ f = cc (i.named, ap g (sym same), j.named) in
    absurd (omega (arith, pair.earlier, ap (λ (w : WriteAt). w.access) t)))
    (λ apart. record {
      access = e;
      between = f ∷ [];
      path = (
        Po (follows threads e f (write 0 u) (write 0 v) pair h k refl refl),
        Co 0 (ordered threads g n j.rank i.rank f e r
            (omega (arith, less, i.value_is, j.value_is, apart)) i.below j.named i.named),
      );
    })

-- CoWR: a read after a write of its thread reads from before it
after_read : (threads : List (List Access)) (g : ℕ → Option WriteAt) (n u v : ℕ) (e f : WriteAt) → Numbered threads g n → IsPair threads e f
    → at_name threads e ≡ Some (write 0 u) → at_name threads f ≡ Some (read 0 v) → v < u
    → HasCycle threads (by_values threads g n)
after_read threads g n u v e f r pair h k less =
    let i = r.writes e 0 u h in
    record {
      access = e;
      between = f ∷ [];
      path = (
        Po (follows threads e f (write 0 u) (read 0 v) pair h k refl refl),
        Fr (from_before threads g n v i.rank f e r k
            (omega (arith, less, i.value_is)) i.below i.named (u, h)),
      );
    }

-- CoRW1 and CoRW2: a read reads a write after it in its thread, or one that comes after such a write
read_write : (threads : List (List Access)) (g : ℕ → Option WriteAt) (n k v : ℕ) (e f : WriteAt) → Numbered threads g n → IsPair threads e f
    → at_name threads e ≡ Some (read 0 (suc k)) → at_name threads f ≡ Some (write 0 v) → v ≤ suc k
    → HasCycle threads (by_values threads g n)
read_write threads g n k v e f r pair h q less =
    let within : suc k ≤ n = r.within e (read 0 (suc k)) h in
    let w = r.gives k (omega arith) in
    let j = r.writes f 0 v q in
    by_same j.rank k
    (λ same. record {
      access = e;
      between = f ∷ [];
      path = (Po (follows threads e f (read 0 (suc k)) (write 0 v) pair h q refl refl), Rf (from_write threads g n k e f h (ap g (sym same) ∙ j.named)));
    })
    (λ apart. record {
      access = e;
      between = f ∷ w.name ∷ [];
      path = (
        Po (follows threads e f (read 0 (suc k)) (write 0 v) pair h q refl refl),
        (
          Co 0 (ordered threads g n j.rank k f w.name r (omega (arith, less, j.value_is, apart)) (omega arith) j.named w.named),
          Rf (from_write threads g n k e w.name h w.named),
        ),
      );
    })

-- CoRR: the second of two reads of a thread reads from before what the first reads
read_read : (threads : List (List Access)) (g : ℕ → Option WriteAt) (n k v : ℕ) (e f : WriteAt) → Numbered threads g n → IsPair threads e f
    → at_name threads e ≡ Some (read 0 (suc k)) → at_name threads f ≡ Some (read 0 v) → v < suc k
    → HasCycle threads (by_values threads g n)
read_read threads g n k v e f r pair h q less =
    let within : suc k ≤ n = r.within e (read 0 (suc k)) h in
    let w = r.gives k (omega arith) in
    record {
      access = e;
      between = f ∷ w.name ∷ [];
      path = (
        Po (follows threads e f (read 0 (suc k)) (read 0 v) pair h q refl refl),
        (
          Fr (from_before threads g n v k f w.name r q (omega (arith, less)) (omega arith) w.named (suc k, w.there)),
          Rf (from_write threads g n k e w.name h w.named),
        ),
      );
    }

-- the value of an access may not come after another value: a read's is less, a write's isn't more
abbrev pub Falls : Dir → ℕ → ℕ → Type 0
Falls dirs.R before after = after < before
Falls dirs.W before after = after ≤ before

falling : (threads : List (List Access)) (g : ℕ → Option WriteAt) (n u v : ℕ) (c d : Dir) (e f : WriteAt) → Numbered threads g n → IsPair threads e f
    → at_name threads e ≡ Some (record { dir = c; place = 0; value = u }) → at_name threads f ≡ Some (record { dir = d; place = 0; value = v }) → 0 < u
    → Falls d u v → HasCycle threads (by_values threads g n)
falling threads g n u v dirs.W dirs.W e f r pair h k some less = after_write threads g n u v e f r pair h k less
falling threads g n u v dirs.W dirs.R e f r pair h k some less = after_read threads g n u v e f r pair h k less
falling threads g n zero v dirs.R d e f r pair h k some less = absurd (omega (arith, some))
falling threads g n (suc u) v dirs.R dirs.W e f r pair h k some less = read_write threads g n u v e f r pair h k less
falling threads g n (suc u) v dirs.R dirs.R e f r pair h k some less = read_read threads g n u v e f r pair h k less

-- where the values of two accesses of a thread fall, from a value that isn't 0, there is a cycle
pub has_cycle : (threads : List (List Access)) (g : ℕ → Option WriteAt) (n : ℕ) (e f : WriteAt) (a b : Access) → Numbered threads g n → e.thread ≡ f.thread
    → e.access < f.access
    → at_name threads e ≡ Some a → at_name threads f ≡ Some b → 0 < a.value → Falls b.dir a.value b.value → HasCycle threads (by_values threads g n)
has_cycle threads g n e f a b r thread earlier h k some less = grind (arith, falling)
