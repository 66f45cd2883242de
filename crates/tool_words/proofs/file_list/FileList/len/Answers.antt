use Rattle.std.proofs.Common.{◌∙◌, sym, ap, length}
use Rattle.tool_words.proofs.Numbered.{rest_length}
use Rattle.tool_words.proofs.file_list.FileList.len.Goals as goal

pub returns : goal.returns
returns c = sym (rest_length c.self.inside.first c.self.inside.words.now) ∙ ap length c.self.view_is
