-- Every edge holds, computed over the definitions that the code is proved against. Assumes nothing.
use mathlib.Core.Path.{refl}
use Rattle.word.specs.Bytes.{le, to_le}
use Rattle.word.specs.Memory.{part, splice}
use Rattle.word.specs.Word.{low, to_int, of_int, sign_extend}
use Rattle.word.specs.Each.{all_below}
use Rattle.word.proofs.ChooseLaws.{◌also◌}
use Rattle.isa.specs.Decode as D
use Rattle.isa.specs.Narrow.{decode_at}
use Rattle.alu.specs.Alu.{alu_of}
use Rattle.alu.specs.Amo.{min_of, max_of, amo_of}
use Rattle.settings.specs.Settings.{xlen_of, size_ok, version_ok, kind_ok, reading_ok, misaligned_ok, lr_cause, amo_cause}
use Rattle.reserve.specs.Range.{touches, inside_of}
use Rattle.reserve.specs.Reserve.{covers_of, breaks_of, own_of, observe_of, broken_of, observe_all_of}
use Rattle.machine.specs.State.{lent_ok, top_ok, memory_ok, reservation_ok, hart_ok, upper_ok, state_ok, refusal_of}
use Rattle.effect.specs.Memory.{fault_of, checked, value_at, exec_store}
use Rattle.effect.specs.Atomic.{exec_lr, exec_sc, exec_amo, exec_cas, exec_cas_pair}
use Rattle.effect.specs.Execute.{reg_at, pair_at, exec_atomic, execute, execute_word}
use Rattle.model.specs.Act.{set_reg, leaves, apply}
use Rattle.model.specs.Perform.{fetch_of, device_of, act_on, act_of, answer_of, memory_of, next_of, run_of}
use Rattle.retry.specs.Loop.{view_of, past_sc, wrong_offset, clobbers, lowest_of, scan_of, start_of, check_of}
use Rattle.edges.specs.Edge.{All}
use Rattle.edges.specs.Edges.{edges}

pub every_edge : All edges
unfolding le to_le part splice low to_int of_int sign_extend all_below
    D.class_of D.store_of D.branch_of D.atomic_of D.sized_of D.lr_of D.cas_of D.cas_pair_of D.decode_of decode_at xlen_of alu_of min_of max_of amo_of
    touches inside_of covers_of breaks_of own_of observe_of broken_of observe_all_of size_ok version_ok kind_ok reading_ok misaligned_ok lent_ok top_ok memory_ok
    reservation_ok hart_ok upper_ok state_ok refusal_of
    lr_cause amo_cause fault_of checked value_at exec_store exec_lr exec_sc exec_amo exec_cas exec_cas_pair reg_at pair_at exec_atomic execute execute_word
    set_reg leaves apply fetch_of device_of act_on act_of answer_of memory_of next_of run_of
    view_of past_sc wrong_offset clobbers lowest_of scan_of start_of check_of
every_edge =
    refl
    also refl
    also (refl, (refl, tt), (refl, tt))
    also (refl, (refl, tt), (refl, tt))
    also (refl, tt, (refl, tt))
    also (refl, tt, (refl, tt))
    also (refl, (refl, tt), (refl, tt))
    also (refl, (refl, (refl, tt)), (refl, (refl, tt)))
    also (refl, (refl, tt), (refl, tt))
    also (refl, (refl, tt), (refl, (refl, tt)))
    also (refl, (refl, tt), (refl, tt))
    also (refl, (refl, tt), (refl, tt))
    also (refl, (refl, tt), (refl, tt))
    also (refl, (refl, tt), (refl, tt))
    also (refl, (refl, tt), (refl, tt))
    also refl
    also refl
    also tt
