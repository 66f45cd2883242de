use Rattle.std.proofs.Common.{◌∙◌, sym}
use Rattle.log_text.proofs.ReadLog.{some_version, no_version, version_now}
use Rattle.log_text.proofs.reader.LogReader.version.Goals as goal

pub returns-then-has_opened-clause-exact : goal.returns-then-has_opened-clause-exact
returns-then-has_opened-clause-exact c text taken k =
    let reader = c.args.self.now in
    some_version reader.lines.opened c.version.result reader.queue.version (sym c.has_opened.ensures ∙ c.if-has_opened.true) c.version.ensures ∙ version_now reader.lines reader.queue taken text k

pub returns-else-has_opened-clause-exact : goal.returns-else-has_opened-clause-exact
returns-else-has_opened-clause-exact c text taken k =
    let reader = c.args.self.now in
    no_version reader.lines.opened reader.queue.version (sym c.has_opened.ensures ∙ c.if-has_opened.false) ∙ version_now reader.lines reader.queue taken text k
