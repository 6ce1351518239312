-- Threads whose accesses are all at one place and whose writes write 1, 2, .., each once: with at most two writes one
-- execution alone ends with the last value, in which each read reads the write of its value and the writes come in the order
-- of their values.
use Rattle.co_tests.proofs.Vocabulary.{◌≡◌, ℕ, zero, suc, ◌-◌, ◌<◌, ◌≤◌, true, List, [], ◌∷◌, length, map, Option, Some, None, slice_get, refl, sym, ◌∙◌, ap, subst, arith, add-one, filter, filter_map, length-map, slice_get_within, upto, Dir, WriteAt, Access, write, is_read, at_name, Execution, CanRead, AreReadsOf, IsOrderOf, IsExecutionOf, order_place, order_at, source_at, placed_by, coherence_place, last_write, final_value, got_from_list, got_below, got_map, kept, same_below, length-filter_map-upto, slice_get-filter_map-upto, Holds, Gives, place_held, order_by_steps, order_given, place_given, reads_by_source, reads_given, reads_fixed, source_given, order_got, stands_at}
use Rattle.relax_edges.specs.declared.kinds.Dir.TheVariants as dirs

-- a write access writes one more than its number among the writes, at place 0
pub record IsNth (g : ℕ → Option WriteAt) (n : ℕ) (w : WriteAt) (place value : ℕ) : Type 0 where
  pub rank : ℕ
  pub below : rank < n
  pub place_is : place ≡ 0
  pub value_is : value ≡ suc rank
  pub named : g rank ≡ Some w

-- write number k is an access under its name, of the value k + 1
pub record NamesWrite (threads : List (List Access)) (g : ℕ → Option WriteAt) (k : ℕ) : Type 0 where
  pub name : WriteAt
  pub named : g k ≡ Some name
  pub there : at_name threads name ≡ Some (write 0 (suc k))

-- all accesses are at place 0, with values up to n, and the writes are n, which g names in the order of their values from 1
pub record Numbered (threads : List (List Access)) (g : ℕ → Option WriteAt) (n : ℕ) : Type 0 where
  pub gives : (k : ℕ) → k < n → NamesWrite threads g k
  pub writes : (w : WriteAt) (place value : ℕ) → at_name threads w ≡ Some (write place value) → IsNth g n w place value
  pub place : (name : WriteAt) (access : Access) → at_name threads name ≡ Some access → access.place ≡ 0
  pub within : (name : WriteAt) (access : Access) → at_name threads name ≡ Some access → access.value ≤ n

-- the write of a value, none for the value 0
abbrev pub by_value : (ℕ → Option WriteAt) → ℕ → Option WriteAt
by_value g zero = None
by_value g (suc k) = g k

-- what an access reads: the write of its value
abbrev pub source_in : (ℕ → Option WriteAt) → Access → Option WriteAt
source_in g access = by_value g access.value

-- each read reads the write of its value, and the writes come in the order of their values
abbrev pub by_values : List (List Access) → (ℕ → Option WriteAt) → ℕ → Execution
by_values threads g n = record {
  reads = map (λ accesses. reads_by_source (source_in g) (filter is_read accesses)) threads;
  orders = filter_map g (upto n) ∷ [];
}

-- what can be read is the write of the value
fixed : (threads : List (List Access)) (g : ℕ → Option WriteAt) (n : ℕ) (access : Access) (o : Option WriteAt) → Numbered threads g n
    → CanRead threads access o → o ≡ source_in g access
fixed threads g n access None r c = ap (by_value g) (sym c)
fixed threads g n access (Some w) r c = grind (arith, r.writes w access.place access.value c)

-- the write of a value can be read
can_value : (threads : List (List Access)) (g : ℕ → Option WriteAt) (n : ℕ) (access : Access) (v : ℕ) → Numbered threads g n → access.place ≡ 0
    → v ≡ access.value → v ≤ n → CanRead threads access (by_value g v)
can_value threads g n access zero r p e h = sym e
can_value threads g n access (suc k) r p e h =
    let w = r.gives k (omega arith) in
    subst (CanRead threads access) (sym w.named)
    (w.there ∙ ap Some (λ t. record { dir = dirs.W; place = sym p t; value = e t }))

can_source : (threads : List (List Access)) (g : ℕ → Option WriteAt) (n : ℕ) (name : WriteAt) (access : Access) → Numbered threads g n
    → at_name threads name ≡ Some access → CanRead threads access (source_in g access)
can_source threads g n name access r h = can_value threads g n access access.value r (r.place name access h) refl (r.within name access h)

-- no write is named twice
pub gives_once : (threads : List (List Access)) (g : ℕ → Option WriteAt) (n : ℕ) → Numbered threads g n → Gives g n
gives_once threads g n r = record {
  some = λ k h. let w = r.gives k h in (w.name, w.named);
  once = λ j k w h l p q. grind (arith, r.gives j h, r.gives k l);
}

-- the order of the place holds the writes
holds : (threads : List (List Access)) (g : ℕ → Option WriteAt) (n : ℕ) (order : List WriteAt) → Numbered threads g n → IsOrderOf threads 0 order
    → Holds order g n
holds threads g n order r o = record {
  some = (gives_once threads g n r).some;
  each = λ k w h e. grind (arith, r.gives k h);
  only = λ j w e.
      let v = o.writes j w e in
      let k = r.writes w 0 v.0 v.1 in
      (k.rank, k.below, k.named);
  once = o.once;
}

-- the write of an order's last place has the value that the place ends with
ends_with : (threads : List (List Access)) (g : ℕ → Option WriteAt) (n k : ℕ) (x : Execution) → Numbered threads g n → Holds (order_at x 0) g n
    → 0 < length (order_at x 0) → final_value threads x 0 ≡ suc k
    → slice_get (order_at x 0) (length (order_at x 0) - 1) ≡ g k
ends_with threads g n k x r q some v =
    let e = got_below (order_at x 0) (length (order_at x 0) - 1) (omega arith) in
    let j = q.only (length (order_at x 0) - 1) e.element e.got in
    let a = r.gives j.0 j.1 in
    let t : last_write (order_at x 0) ≡ Some a.name = e.got ∙ sym j.2 ∙ a.named in
    let f : final_value threads x 0 ≡ suc j.0 = grind arith in
    let d : j.0 ≡ k = omega (arith, f, v) in
    e.got ∙ sym j.2 ∙ ap g d

-- where the place ends with the last value, the last write but one comes before the last
last_step : (threads : List (List Access)) (g : ℕ → Option WriteAt) (n k : ℕ) (x : Execution) → Numbered threads g n → Holds (order_at x 0) g n
    → n ≡ suc (suc k) → final_value threads x 0 ≡ n
    → order_place (order_at x 0) (g k) < order_place (order_at x 0) (g (suc k))
last_step threads g n k x r q m v =
    grind (arith, place_held (order_at x 0) g n, slice_get_within (order_at x 0), ends_with threads g n (suc k) x r q, gives_once threads g n r)

-- the order of the place is that of the values, where there are at most two
order_is : (threads : List (List Access)) (g : ℕ → Option WriteAt) (n : ℕ) (x : Execution) → Numbered threads g n → n ≤ 2
    → (2 ≤ n → final_value threads x 0 ≡ n) → IsOrderOf threads 0 (order_at x 0)
    → order_at x 0 ≡ filter_map g (upto n)
order_is threads g n x r few ends o = grind (arith, holds threads g n (order_at x 0) r o, order_by_steps (order_at x 0) g n, add-one, last_step threads g n)

-- each thread reads what its values name
reads_are : (threads : List (List Access)) (g : ℕ → Option WriteAt) (n places : ℕ) (x : Execution) → Numbered threads g n → IsExecutionOf threads places x
    → x.reads ≡ (by_values threads g n).reads
reads_are threads g n places x r c =
    same_below x.reads (by_values threads g n).reads (length threads) c.read_lists (length-map threads
    (λ accesses. reads_by_source (source_in g) (filter is_read accesses))) here
  where
    here : (k : ℕ) → k < length threads → slice_get x.reads k ≡ slice_get (by_values threads g n).reads k
    here k h =
        let t = got_below threads k h in
        let l = got_below x.reads k (omega (arith, c.read_lists, h)) in
        l.got
        ∙ ap Some (reads_fixed threads (source_in g) (filter is_read t.element) l.element (c.reads k t.element l.element t.got l.got)
        (λ j access w e p. fixed threads g n access w r p))
        ∙ sym (got_map (λ accesses. reads_by_source (source_in g) (filter is_read accesses)) threads k t.element t.got)

one_order : (orders : List (List WriteAt)) (order : List WriteAt) → length orders ≡ 1 → slice_get orders 0 ≡ Some order → orders ≡ order ∷ []
one_order [] order h g = cc
one_order (o ∷ []) order h g = let e : o ≡ order = cc in ap (λ l. l ∷ []) e
one_order (o ∷ p ∷ orders) order h g = absurd (omega (arith, h))

-- one execution alone ends with the last value
pub only_by_values : (threads : List (List Access)) (g : ℕ → Option WriteAt) (n : ℕ) (x : Execution) → Numbered threads g n → n ≤ 2
    → IsExecutionOf threads 1 x → (2 ≤ n → final_value threads x 0 ≡ n)
    → x ≡ by_values threads g n
only_by_values threads g n x r few c ends =
    let got = order_got threads 1 0 x c (omega arith) in
    let reads : x.reads ≡ (by_values threads g n).reads = reads_are threads g n 1 x r c in
    let order : order_at x 0 ≡ filter_map g (upto n) = order_is threads g n x r few ends (c.orders 0 (order_at x 0) got) in
    let orders : x.orders ≡ filter_map g (upto n) ∷ [] = one_order x.orders (filter_map g (upto n)) c.write_lists (got ∙ ap Some order) in
    λ t. record { reads = reads t; orders = orders t }

-- the list of the writes is an order of the place
is_order : (threads : List (List Access)) (g : ℕ → Option WriteAt) (n : ℕ) → Numbered threads g n → IsOrderOf threads 0 (filter_map g (upto n))
is_order threads g n r = record {
  writes = λ j w e.
      let k = q.only j w e in
      let a = r.gives k.0 k.1 in
      let f : a.name ≡ w = cc (a.named, k.2) in
      (suc k.0, ap (at_name threads) (sym f) ∙ a.there);
  each = λ w v e. let k = r.writes w 0 v e in q.each k.rank w k.below k.named;
  once = q.once;
}
  where
    q : Holds (filter_map g (upto n)) g n
    q = order_given g n (gives_once threads g n r)

-- it is an execution
pub by_values_execution : (threads : List (List Access)) (g : ℕ → Option WriteAt) (n : ℕ) → Numbered threads g n
    → IsExecutionOf threads 1 (by_values threads g n)
by_values_execution threads g n r = record {
  read_lists = length-map threads (λ accesses. reads_by_source (source_in g) (filter is_read accesses));
  write_lists = refl;
  reads = λ k accesses reads t h.
      let e : reads_by_source (source_in g) (filter is_read accesses) ≡ reads =
      cc (got_map (λ accesses. reads_by_source (source_in g) (filter is_read accesses)) threads k accesses t, h) in
      subst (AreReadsOf threads (filter is_read accesses)) e
      (reads_given threads (source_in g) (filter is_read accesses)
      (λ j access q. let w = kept is_read accesses j access q in
      can_source threads g n (record { thread = k; access = w.index }) access r (stands_at threads k w.index accesses access t w.got)));
  orders = λ place order h. at_place place order h;
}
  where
    at_place : (place : ℕ) (order : List WriteAt) → slice_get (filter_map g (upto n) ∷ []) place ≡ Some order → IsOrderOf threads place order
    at_place zero order h = let e : filter_map g (upto n) ≡ order = cc in subst (IsOrderOf threads 0) e (is_order threads g n r)
    at_place (suc place) order h = cc

-- it ends with the last value
pub by_values_ends : (threads : List (List Access)) (g : ℕ → Option WriteAt) (n k : ℕ) → Numbered threads g n → n ≡ suc k
    → final_value threads (by_values threads g n) 0 ≡ suc k
by_values_ends threads g n k r e = grind (arith, gives_once, length-filter_map-upto, slice_get-filter_map-upto)

-- in it a read reads the write of its value
pub by_values_source : (threads : List (List Access)) (g : ℕ → Option WriteAt) (n : ℕ) (name : WriteAt) (access : Access) → at_name threads name ≡ Some access
    → is_read access ≡ true
    → source_at threads (by_values threads g n) name ≡ source_in g access
by_values_source threads g n name access h p =
    grind (arith, got_from_list (slice_get threads name.thread) name.access access h, source_given threads (by_values threads g n) (source_in g) name, got_map)

place_of_value : (threads : List (List Access)) (g : ℕ → Option WriteAt) (n v : ℕ) → Numbered threads g n → v ≤ n
    → order_place (filter_map g (upto n)) (by_value g v) ≡ v
place_of_value threads g n v r h = grind (arith, place_given, gives_once, add-one)

-- in it the coherence place of an access is its value
pub by_values_place : (threads : List (List Access)) (g : ℕ → Option WriteAt) (n : ℕ) (name : WriteAt) (access : Access) → Numbered threads g n
    → at_name threads name ≡ Some access
    → coherence_place threads (by_values threads g n) name access ≡ access.value
by_values_place threads g n name access r h =
    let at : access.place ≡ 0 = r.place name access h in
    ap (λ place. order_place (order_at (by_values threads g n) place) (placed_by access.dir threads (by_values threads g n) name)) at
    ∙ ap (order_place (filter_map g (upto n))) (by_dir access.dir refl)
    ∙ place_of_value threads g n access.value r (r.within name access h)
  where
    by_dir : (d : Dir) → access.dir ≡ d → placed_by d threads (by_values threads g n) name ≡ source_in g access
    by_dir dirs.R e = by_values_source threads g n name access h (rw e refl)
    by_dir dirs.W e =
        let k = r.writes name access.place access.value (h ∙ ap Some (λ t. record { dir = e t; place = access.place; value = access.value })) in
        sym k.named ∙ ap (by_value g) (sym k.value_is)
