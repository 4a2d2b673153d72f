-- `message_writers::write_as` meets its contract. Assumes nothing.
use mathlib.Core.Path.{sym, ◌∙◌}
use Rattle.message_writers.proofs.CallsLaws.{good_write, bad_write}
use Rattle.message_writers.proofs.write_as.Goals as goal

pub answered-requires : goal.answered-requires
answered-requires g c =
    let a = c.args in
    (good_write g.M.Pdu.message a.octets.now a.c.at a.c.end (g.M.OwnRecord.of a.d) (sym c.is_good_window.ensures ∙ c.if-is_good_window.true) c.to_bitbuf.ensures).behind

pub returns-then-is_good_window : goal.returns-then-is_good_window
returns-then-is_good_window g c =
    let a = c.args in
    let w = good_write g.M.Pdu.message a.octets.now a.c.at a.c.end (g.M.OwnRecord.of a.d) (sym c.is_good_window.ensures ∙ c.if-is_good_window.true) c.to_bitbuf.ensures in
    record { answer = c.answered.ensures ∙ w.answer; octets = w.octets }

pub returns : goal.returns
returns g c =
    let a = c.args in
    let w = bad_write g.M.Pdu.message a.octets.now a.c.at a.c.end (g.M.OwnRecord.of a.d) (sym c.is_good_window.ensures ∙ c.if-is_good_window.false) in
    record { answer = c.refused.ensures ∙ w.0; octets = w.1 }
