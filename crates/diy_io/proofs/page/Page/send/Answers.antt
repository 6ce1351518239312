-- That `send` sends a text: whole to the page, or by way of a page that is handed on.
use Rattle.std.proofs.{Common.{◌≡◌, ◌-◌, ◌++◌, ◌∙◌, ap, length, take, drop, arith, length-drop}, lemmas.List.{length-take-le, take-append-drop, take_all}}
use Rattle.diy_io.proofs.PageLemmas.{put_whole, filled_unsent, filled_then}
use Rattle.diy_io.proofs.page.Page.send.Goals as goal

pub returns-then-text-free : goal.returns-then-text-free
returns-then-text-free g c = put_whole _ _ _ _ _ c.put.ensures (omega arith)

pub returns-in_err-flush : goal.returns-in_err-flush
returns-in_err-flush g c =
    let part : length (take c.free-free.result c.args.text.now) ≡ c.free-free.result = length-take-le c.free-free.result c.args.text.now (omega arith) in
    filled_unsent _ _ _ _ (take c.free-free.result c.args.text.now) (drop c.free-free.result c.args.text.now) _ _ _ c.from_residual.result c.put-2.ensures (omega arith)
    (take-append-drop c.free-free.result c.args.text.now) c.in_err-flush.ensures.wrote.failed c.from_residual.ensures.1

pub returns : goal.returns
returns g c =
    let text = c.args.text.now in
    let free = c.free-free.result in
    let part : length (take free text) ≡ free = length-take-le free text (omega arith) in
    let rest = take_all (length text - free) (drop free text) (omega (arith, length-drop free text)) in
    filled_then _ _ _ _ (take free text) _ _ _ _ _ c.send_rest.result c.put-2.ensures (omega arith)
    (ap (λ r. take free text ++ r) rest ∙ take-append-drop free text) c.in_ok-flush.ensures.wrote.ok c.in_ok-flush.ensures.empty c.send_rest.ensures
