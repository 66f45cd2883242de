use Rattle.std.proofs.Common.{rules}
use Rattle.sync_port.specs.declared.entries.Entry.{Entry}
use Rattle.sync_port.proofs.EntryLemmas.{noted_held}
use Rattle.sync_port.proofs.entries.note_read.Goals as goal

pub returns-then-place-len-clause-held : goal.returns-then-place-len-clause-held
returns-then-place-len-clause-held c =
    let noted : Entry = record { name = c.index_mut.result.now.name; bytes = c.index_mut.result.now.bytes; most = c.max.result } in
    noted_held c.args.entries.now.items c.in-Some.place c.index_mut.result.now noted (search rules) (record { name = search rules; bytes = search rules })
