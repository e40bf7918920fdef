use Rattle.frame_session.specs.Cached.{of_states}
use Rattle.wokureti_c.specs.declared.opening.OpenFault.TheVariants.{Memory}
use Rattle.wokureti_c.specs.Openings.{files_in}
use Rattle.wokureti_c.proofs.Opens.{is_opened}
use Rattle.wokureti_c.proofs.exports.wk_open.Goals as goal

pub returns-in-Ok-clause-opened : goal.returns-in-Ok-clause-opened
returns-in-Ok-clause-opened c opened =
    let held = c.hold.ensures.held opened in (
      held.0,
      held.1,
      is_opened (files_in c.args.files.now c.args.ends.now) (of_states c.args.states) c.of_states.result c.args.tables.now c.in-Ok.opened held.0 c.in-Ok.ensures.opened c.in-Ok.ensures.capacity c.of_states.ensures c.in-Ok.ensures.heads held.2 held.3,
    )

pub returns-in-Ok-clause-refused : goal.returns-in-Ok-clause-refused
returns-in-Ok-clause-refused c failed =
    let means = c.in-Ok.ensures.opened.2 in
    record { fault = Memory; refuses = (means.files, means.are); reports = (c.hold.ensures.memory failed).0 }
