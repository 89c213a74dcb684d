use Rattle.std.proofs.Common.{◌≡◌, length, take}
use Rattle.retry.specs.Loop.{words_of}
use Rattle.retry.proofs.bytes.words.Given as goal

abbrev pub invariant-loop-i : goal.invariant-loop-i
invariant-loop-i l = record {
  sixteen : length l.found ≡ 16;
  so_far : take l.i l.found ≡ words_of l.bytes l.i;
}
