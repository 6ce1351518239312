-- The normal form of a small resolved chain is listed.
use Rattle.std.proofs.Common.{inl, inr, ℕ, ◌+◌, ◌≤◌, ◌&&◌, List, length, ap, arith}
use Rattle.std.proofs.lemmas.Bool.{and_from, le-leb}
use Rattle.std.specs.{Prelude.is_none}
use Rattle.relax_edges.specs.{declared.kinds.Dir.Dir, declared.edge.Edge.Edge}
use Rattle.edge_algebra_laws.specs.{CycleOrder.IsNormal, Rotation.IsRotation}
use Rattle.edge_algebra_laws.proofs.{Laws.cycle_of_rotation, Rotating.{rotation_back, rotation_length, rotation_on}}
use Rattle.cycle_events.specs.Resolution.{IsResolved, external_count}
use Rattle.program_meaning.specs.{Programs.{accesses_in}}
use Rattle.program_meaning.proofs.Runs.{accesses-count}
use Rattle.sc_and_interleavings.proofs.SequentialLaws.{sequential_goes_along}
use Rattle.critical_cycles.specs.Critical.{dir_at}
use Rattle.critical_cycles.specs.CycleEdges.{critical_edges}
use Rattle.critical_cycles.proofs.CriticalLaws.{candidates_show_cycles, critical_cycles_are_short, critical_cycles_have_events}
use Rattle.critical_cycles.proofs.CriticalLaws.{two_threads_show_six}
use Rattle.test_maker.specs.Refusals.{refusal_of}
use Rattle.tests_to_files.specs.Plans.{IsPlanned, Plan, has_few_accesses, has_few_threads, is_wanted}
use Rattle.critical_listings.specs.{Accepted.{AllowsCritical, CyclesHaveTests}, Listed.{CyclesAreListed, ListingsShowAll, TwoThreadsShow}}
use Rattle.critical_listings.proofs.{AcceptedChains.{accepted, externals_turned, rotation_accepted, rotation_fits}, Chains.{Chain, chain_of}}
use Rattle.critical_listings.proofs.{Externals.externals, MadeOfRelaxations.made_of, Normal.least_rotation, Small.{own_edges, small}}

-- a normal form of a resolved chain that leads back, of few edges and threads, is listed
pub planned_turned : (plan : Plan) (count : ℕ) (from : Dir) (es u : List Edge) → AllowsCritical count plan → Chain from from es
    → IsResolved es → length es ≤ count + count → external_count es ≤ count
    → IsRotation es u → IsNormal u → IsPlanned plan u
unfolding is_wanted
planned_turned plan count from es u allows chain r short few turn normal =
    let m = made_of from es chain in
    let fit = small from es chain r in
    record {
      cycle = cycle_of_rotation es u turn r.composes;
      normal = normal;
      limits = record { few = omega (arith, rotation_length es u turn, short, allows.size); same = λ e. cc (e, allows.any) };
      made = rw allows.relaxes (record {
        turned = m.turned;
        rotation = rotation_on u es m.turned
            (rotation_back es u turn) m.rotation;
        made = m.made;
      });
      taken = and_from (is_none (refusal_of plan.puts u plan.mode)) (has_few_threads plan.threads u && has_few_accesses plan.accesses u)
          (ap is_none (rotation_accepted plan.puts allows.room es u plan.mode r fit (own_edges plan.puts.name from from es chain) turn))
          (and_from (has_few_threads plan.threads u) (has_few_accesses plan.accesses u)
          (le-leb (external_count u) plan.threads (omega (arith, externals_turned es u turn, few, allows.threads)))
          (rotation_fits es u plan.accesses allows.accesses r fit turn));
    }

-- on an architecture with room, the edges of a critical cycle have a test
pub cycles_have_tests : CyclesHaveTests
cycles_have_tests a mode threads places x room execution within c few =
    let r = (critical_cycles_have_events threads places x execution within c few).resolved in
    let chain = chain_of threads x c in
    let from = dir_at threads c.start.first in
    accepted a room (critical_edges c) mode r (small from (critical_edges c) chain r) (own_edges a.name from from (critical_edges c) chain)

-- the edges of a critical cycle are listed
pub cycles_are_listed : CyclesAreListed
cycles_are_listed plan count threads places x allows most enough execution within c =
    let es = critical_edges c in
    let short = critical_cycles_are_short threads places x execution within c in
    let r = (critical_cycles_have_events threads places x execution within c (omega (arith, short.edge_count, enough, most))).resolved in
    let n = least_rotation es r.composes.some in
    record {
      listed = n.least;
      rotation = n.is.rotation;
      planned = planned_turned plan count (dir_at threads c.start.first) es n.least allows (chain_of threads x c) r
          (omega (arith, short.edge_count, enough))
          (omega (arith, externals threads x c, short.thread_count, enough)) n.is.rotation n.is.normal;
    }

-- a coherent candidate comes from an interleaving, or shows a listed cycle
pub listings_show_all : ListingsShowAll
listings_show_all plan count allows most p x few candidate within coherent =
    elim (candidates_show_cycles p x (omega (arith, few, most)) candidate within coherent) [
      | inl sequential ↦ inl (sequential_goes_along p x candidate within sequential)
      | inr shown ↦ inr (record {
        cycle = shown.cycle;
        events = shown.events;
        listed = cycles_are_listed plan count (accesses_in p x) p.places x allows most
            (omega (arith, accesses-count p x, few)) candidate.execution within shown.cycle;
      })
    ]

-- and with two threads it shows one of the six
pub two_threads_show : TwoThreadsShow
two_threads_show p x few candidate within coherent =
    elim (candidates_show_cycles p x (omega (arith, few)) candidate within coherent) [
      | inl sequential ↦ inl (sequential_goes_along p x candidate within sequential)
      | inr shown ↦ inr (record {
        cycle = shown.cycle;
        events = shown.events;
        named = two_threads_show_six (accesses_in p x) p.places x candidate.execution within
            (omega (arith, accesses-count p x, few)) shown.cycle;
      })
    ]
