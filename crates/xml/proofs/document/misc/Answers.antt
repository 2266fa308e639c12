use Rattle.std.proofs.Common.{rules, None, Some}
use Rattle.xml.specs.Forms.{MiscForm}
use Rattle.xml.specs.Bytes.{white}
use Rattle.xml.proofs.Steps.{reads_as, reads_none, onward, run_stops}
use Rattle.xml.proofs.Documents.{white_step, note_step, note_none, misc_ends}
use Rattle.xml.proofs.document.misc.Goals as goal

pub returns-then-not-starts_with : goal.returns-then-not-starts_with
returns-then-not-starts_with c =
    let next = c.past_white-next.result in
    reads_as MiscForm MiscForm _ _ (Some next) (onward MiscForm _ _ _ c.loop-next.invariant (white_step _ _ c.past_white-next.ensures.is))
    (misc_ends next.now (run_stops white _ _ next.now c.past_white-next.ensures.is.longest) (search rules))

pub returns-in_err-left : goal.returns-in_err-left
returns-in_err-left c =
    reads_none MiscForm _ _ c.from_residual.ensures
    (reads_as MiscForm MiscForm _ _ None (onward MiscForm _ _ _ c.loop-next.invariant (white_step _ _ c.past_white-next.ensures.is))
    (note_none _ (search rules) c.in_err-left.ensures.reads))

pub loop-next-preserved : goal.loop-next-preserved
loop-next-preserved c =
    onward MiscForm _ _ _ c.loop-next.invariant
    (onward MiscForm _ _ _ (white_step _ _ c.past_white-next.ensures.is) (note_step _ _ (search rules) c.in_ok-left.ensures.reads))
