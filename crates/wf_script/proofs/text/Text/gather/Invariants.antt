use Rattle.std.proofs.Common.{◌≡◌, ◌++◌, take}
use Rattle.wf_script.proofs.text.Text.gather.Given as goal

abbrev pub invariant-loop-byte : goal.invariant-loop-byte
invariant-loop-byte l = record {
  waiting : l.self.waiting.items ≡ l.initial.self.waiting.items ++ take l.byte-index l.bytes;
  written : l.self.written ≡ l.initial.self.written;
  stopped : l.self.stopped ≡ l.initial.self.stopped;
}
