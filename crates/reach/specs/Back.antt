-- What a step may change, as it was before the step, and put back.
use Rattle.std.specs.Prelude.{ℕ, ◌+◌, ◌%◌, length, get_or, set}
use Rattle.word.specs.Bytes.{le, to_le}
use Rattle.word.specs.Memory.{part, splice}
use Rattle.effect.specs.Execute.{reg_at}
use Rattle.model.specs.Act.{set_reg}
use Rattle.model.specs.Perform.{Machine, xlen}
use Rattle.reach.specs.Reach.{window_of, reach_in}
use Rattle.reach.specs.declared.Saved.{Saved}

-- of hart h of machine m: register rd and the one behind it, its pc, the reservations, and the 16 bytes from place at on
abbrev pub saved_at : ℕ → Machine → ℕ → ℕ → Saved
saved_at at m h rd =
    record {
      hart = h;
      rd = rd;
      first = reg_at m.state.x h rd;
      second = reg_at m.state.x h (rd % 32 + 1);
      pc = get_or m.state.pc h 0;
      res = m.state.res;
      at = at;
      low = le (part m.mem at 8);
      high = le (part m.mem (at + 8) 8);
    }

-- what the word may change that hart h is to step on
unfoldable pub saved_of : ℕ → Machine → ℕ → ℕ → Saved
saved_of base m h word =
    let c = reach_in (xlen m) word (reg_at m.state.x h) in
    saved_at (window_of base (length m.mem) c.at) m h c.rd

-- the machine with that as it was
unfoldable pub put_back : Saved → Machine → Machine
put_back k m =
    record {
      state = record {
        count = m.state.count;
        settings = m.state.settings;
        x = set_reg k.hart (k.rd % 32 + 1) k.second (set_reg k.hart k.rd k.first m.state.x);
        pc = set m.state.pc k.hart k.pc;
        res = k.res;
      };
      mem = splice (splice m.mem k.at (to_le 8 k.low)) (k.at + 8) (to_le 8 k.high);
    }
