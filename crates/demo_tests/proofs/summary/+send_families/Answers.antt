-- The lines of the families are sent one after another.
use Rattle.demo_tests.proofs.LineLaws.{no_families, no_tallies, lines_sent}
use Rattle.demo_tests.proofs.summary.+send_families.Goals as goal

pub returns-in-empty : goal.returns-in-empty
returns-in-empty g t c = no_families _ _ c.args.families.now c.args.tallies.now c.in-empty.len_below

pub returns-in-empty-tallies : goal.returns-in-empty-tallies
returns-in-empty-tallies g t c = no_tallies _ _ c.args.families.now c.args.tallies.now c.in-empty-tallies.len_below

pub returns-in_ok-send_family-in-len1-up-tallies : goal.returns-in_ok-send_family-in-len1-up-tallies
returns-in_ok-send_family-in-len1-up-tallies g t c =
    lines_sent _ _ _ _ _ _ c.args.families.now c.args.tallies.now _ _ _ c.send_families.result c.in-len1-up.len_at_least c.in-len1-up-tallies.len_at_least
    c.in_ok-send_family-in-len1-up-tallies.ensures c.send_families.ensures
