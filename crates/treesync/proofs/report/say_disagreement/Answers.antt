use Rattle.treesync.proofs.report.say_disagreement.Goals as goal

pub returns : goal.returns
returns g c = record {
  faults = c.send_line_at.ensures.faults;
  contents = rw (c.as_bytes.ensures.value, c.as_bytes-2.ensures.value, c.as_bytes-3.ensures.value, c.format.ensures.text, c.as_bytes-4.ensures.value, c.as_bytes-5.ensures.value, c.format-2.ensures.text, c.as_bytes-6.ensures.value, c.as_bytes-7.ensures.value)
      at c.send_line_at.ensures.contents;
}
