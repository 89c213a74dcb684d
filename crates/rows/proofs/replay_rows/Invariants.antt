use Rattle.std.proofs.Common.{◌≡◌, ◌+◌, ◌/◌, length}
use Rattle.std.specs.Slice.Iter.{chunks_exact_rest, chunks_exact_size}
use Rattle.std.specs.Iterator.Adapters.{enumerate_count, enumerate_source}
use Rattle.model.specs.Valid.{Valid}
use Rattle.rows.specs.Replay.{readings, end_of}
use Rattle.rows.proofs.ReplayLaws.{further}
use Rattle.rows.proofs.replay_rows.Given as goal

-- the iterator has counted the rows that agreed, and has the rest of the log
abbrev pub invariant-loop-i : goal.invariant-loop-i
invariant-loop-i l =
    let i = enumerate_count l.i-iterator in
    let rest = chunks_exact_rest (enumerate_source l.i-iterator) in
    record {
      size : chunks_exact_size (enumerate_source l.i-iterator) ≡ 48;
      rows : i + length rest / 48 ≡ length l.log / 48;
      count : l.s.count ≡ l.fn.state.count;
      valid : Valid l.base (record { state = l.s; mem = l.mem });
      ends : further i (end_of l.base (record { state = l.s; mem = l.mem }) (readings l.fn.state.count (length rest / 48) rest))
          ≡ end_of l.base (record { state = l.fn.state; mem = l.fn.mem }) (readings l.fn.state.count (length l.log / 48) l.log);
    }
