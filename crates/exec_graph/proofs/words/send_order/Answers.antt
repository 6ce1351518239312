-- The first barrier is sent, and then the others.
use Rattle.exec_graph.proofs.SentLines.{order_sent}
use Rattle.exec_graph.proofs.words.send_order.Goals as goal

pub returns-in_ok-send-in-len1-up : goal.returns-in_ok-send-in-len1-up
returns-in_ok-send-in-len1-up g c =
    order_sent _ _ _ _ _ _ _ c.args.barriers.now _ _ c.send_all_further.result c.in-len1-up.len_at_least c.in_ok-send-in-len1-up.ensures c.barrier_word.ensures
    c.send_all_further.ensures
