-- What is sent is the lines of the edges.
use Rattle.exec_check.proofs.Lines.{edges_none, edges_sent, edges_stopped}
use Rattle.exec_check.proofs.writing.+send_edges.Goals as goal

pub returns-in-empty : goal.returns-in-empty
returns-in-empty g t c = edges_none _ _ c.args.number c.args.edges.now c.in-empty.len_below

pub returns-in_err-send_edge-in-len1-up : goal.returns-in_err-send_edge-in-len1-up
returns-in_err-send_edge-in-len1-up g t c =
    edges_stopped _ _ _ _ _ _ c.args.number c.args.edges.now _ _ c.from_residual.result c.in-len1-up.len_at_least c.in_err-send_edge-in-len1-up.ensures c.from_residual.ensures.1

pub returns-in_ok-send_edge-in-len1-up : goal.returns-in_ok-send_edge-in-len1-up
returns-in_ok-send_edge-in-len1-up g t c =
    edges_sent _ _ _ _ _ _ c.args.number c.args.edges.now _ _ c.send_edges.result c.in-len1-up.len_at_least c.in_ok-send_edge-in-len1-up.ensures c.send_edges.ensures
