use Rattle.std.proofs.Common.{rules, refl}
use Rattle.word.specs.Bytes.{IsBytes}
use Rattle.word.proofs.MemoryLaws.{part_lt}
use Rattle.effect.specs.Memory.{value_at, exec_load}
use Rattle.exec.proofs.AccessLaws.{placed, met_trap, met_done}
use Rattle.exec.proofs.memory.load.Goals as goal

pub returns-in_err-at : goal.returns-in_err-at
unfolding exec_load
returns-in_err-at c = λ h. rw (← c.load_bytes-n.ensures.0) ((met_trap _ _ _ _ _ _ c.in_err-at.ensures.value _ {mem = c.args.mem.now} c.from_residual.ensures.1).answer)

pub extend-requires : goal.extend-requires
extend-requires c =
    let x = c.args in
    let bytes : IsBytes x.mem.now = λ k. (c.type_inv.mem k).fits in
    (c.requires, search rules, rw (← c.load_bytes-n.ensures.0, c.load_at-v.ensures) (part_lt x.mem.now _ _ bytes))

pub returns : goal.returns
unfolding exec_load value_at
returns c = λ h.
    rw (← c.load_bytes-n.ensures.0, ← placed _ _ _ _ _ _ c.in_ok-at.ensures.value, ← c.load_at-v.ensures, ← c.extend.ensures)
    ((met_done _ _ _ _ _ _ c.in_ok-at.ensures.value _ {mem = c.args.mem.now} (record { answer = c.retire.ensures; memory = refl })).answer)
