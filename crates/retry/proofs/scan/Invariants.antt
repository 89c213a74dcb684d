use Rattle.std.proofs.Common.{◌≡◌, ◌-◌, length}
use Rattle.retry.specs.Loop.{past_sc, scan_of}
use Rattle.retry.proofs.scan.Given as goal

abbrev pub invariant-loop-place : goal.invariant-loop-place
invariant-loop-place l = record {
  past : l.past ≡ past_sc l.settings l.words l.place;
  rest : scan_of l.settings l.rs1 l.width l.words (length l.words - l.place) l.place ≡ scan_of l.settings l.rs1 l.width l.words (length l.words) 0;
}
