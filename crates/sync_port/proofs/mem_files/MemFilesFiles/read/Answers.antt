use Rattle.std.proofs.Common.{◌≡◌, ◌+◌, ◌++◌, rules, ap, sym, drop, take, length, ◌∙◌, arith, length-drop}
use Rattle.sync_port.specs.Entries.{bytes_at}
use Rattle.sync_port.proofs.EntryLemmas.{nothing_left, piece_then_rest}
use Rattle.sync_port.proofs.mem_files.MemFilesFiles.read.Goals as goal

pub returns-clause-contents : goal.returns-clause-contents
returns-clause-contents c =
    let at = c.args.self.now.at in
    let held = bytes_at c.args.self.now.entries.items c.args.self.now.opened in
    let count = c.copy_first-count.result in
    let piece = c.copy_first-count.new.piece in
    let bytes : c.bytes_in.result.now ≡ held = c.bytes_in.ensures ∙ ap (λ entries. bytes_at entries c.args.self.now.opened) c.deref-2.ensures.value in
    let from : c.bytes_from-rest.result.now ≡ drop at held = c.bytes_from-rest.ensures ∙ ap (drop at) bytes in
    let next : c.saturating_add-self-2.result ≡ at + count =
    omega (arith, c.saturating_add-self-2.ensures, c.copy_first-count.ensures.count, ap length from, length-drop at held, ap length bytes, c.bytes_in.type_inv) in
    let split = piece_then_rest held c.bytes_from-rest.result.now piece at count from c.copy_first-count.ensures.bytes in
    let left = nothing_left held c.bytes_from-rest.result.now piece at count from (search rules) in
    record {
      held = c.note_read.ensures.held;
      current = c.note_read.ensures.name;
      to_come = split ∙ ap (λ n. take count piece ++ drop n held) (sym next)
          ∙ ap (λ bytes. take count piece ++ drop c.saturating_add-self-2.result bytes) (sym c.note_read.ensures.bytes);
      end = λ none some. ap (λ bytes. drop c.saturating_add-self-2.result bytes) c.note_read.ensures.bytes ∙ ap (λ n. drop n held) (next ∙ omega (arith, none)) ∙ left none some;
      opened = search rules;
      taken = c.saturating_add-self-3.ensures;
      since_open = c.saturating_add-self-4.ensures;
      most = c.note_read.ensures.most;
    }
