-- Which blocks of words are accepted: 01, "A block is a list of words. It is accepted exactly if no reason below applies; otherwise the answer is the
-- lowest place with a reason, and at that place the lowest reason." By the version of A and the register width that the settings have (02 [7], [10]).
-- RULES 6.1.
use Rattle.std.specs.Prelude.{ℕ, zero, suc, ◌+◌, ◌*◌, ◌%◌, ◌^◌, Bool, true, false, cond, not, ◌&&◌, ◌||◌, List, [], ◌∷◌, ◌++◌, length, ◌==◌, nat_lt, slice_index, Option, Some, None}
use Rattle.word.specs.Bytes.{le}
use Rattle.word.specs.Memory.{part}
use Rattle.settings.specs.Settings.{xlen_of, reading_ok, jalr_permitted}
use Rattle.settings.specs.declared.Settings.{Settings}
use Rattle.isa.specs.Width.{bytes_of}
use Rattle.isa.specs.declared.class.Class.{Class}
use Rattle.isa.specs.declared.class.Class.TheVariants as C
use Rattle.isa.specs.Narrow.{decode_at}
use Rattle.isa.specs.declared.Atomic.{Atomic}
use Rattle.isa.specs.declared.AtomicOp.{AtomicOp}
use Rattle.isa.specs.declared.AtomicOp.TheVariants as A
use Rattle.isa.specs.declared.Instr.{Instr}
use Rattle.isa.specs.declared.Instr.TheVariants as I
use Rattle.retry.specs.declared.View.{View}
use Rattle.retry.specs.declared.View.TheVariants.{Lr, Sc, Plain, Jump, Branch, Other}
use Rattle.retry.specs.declared.LoopAnswer.{LoopAnswer}
use Rattle.retry.specs.declared.LoopAnswer.TheVariants.{Accepted, Rejected, Refused}

-- 01's number of a refusal; 0 is none
abbrev pub loop_refusal : LoopAnswer → ℕ
loop_refusal Accepted = 0
loop_refusal (Rejected place reason) = 0
loop_refusal (Refused number) = number

-- What the checker sees of an instruction. The words of reason 2, "LUI, AUIPC, JAL, a branch, or an OP, OP-IMM, OP-32, OP-IMM-32 word of RV64I", are
-- Plain by their rd, Jump by rd and offset, and Branch by its offset. An offset is a number modulo 2 ^ 64. 02 [7]: under 2.0 "the loop rules also allow
-- JALR as any later word": then it is Plain too.
abbrev pub atomic_view : AtomicOp → Atomic → View
atomic_view A.Lr a = Lr a.rd a.rs1 (bytes_of a.width)
atomic_view A.Sc a = Sc a.rs1 (bytes_of a.width)
atomic_view A.Cas a = Other
atomic_view A.CasPair a = Other
atomic_view (A.Rmw op) a = Other

unfoldable pub view_of : Settings → Instr → View
view_of settings I.Illegal = Other
view_of settings (I.Lui rd imm) = Plain rd
view_of settings (I.Auipc rd imm) = Plain rd
view_of settings (I.Jal rd imm) = Jump rd imm
view_of settings (I.Jalr rd rs1 imm) = cond (jalr_permitted settings) (Plain rd) Other
view_of settings (I.Branch op rs1 rs2 imm) = Branch imm
view_of settings (I.Load op rd rs1 imm) = Other
view_of settings (I.Store op rs1 rs2 imm) = Other
view_of settings (I.OpImm op rd rs1 imm) = Plain rd
view_of settings (I.OpImm32 op rd rs1 imm) = Plain rd
view_of settings (I.Op op rd rs1 rs2) = Plain rd
view_of settings (I.Op32 op rd rs1 rs2) = Plain rd
view_of settings (I.Fence rd rs1 imm) = Other
view_of settings I.Ecall = Other
view_of settings I.Ebreak = Other
view_of settings (I.Amo a) = atomic_view a.op a

-- the word at a place of a block. 02 [10]: at a register width of 32 bits "loop words are read as RV32I"
abbrev pub view_at : Settings → List ℕ → ℕ → View
view_at settings ws place = view_of settings (decode_at (xlen_of settings) (slice_index ws place))

abbrev pub is_sc : View → Bool
is_sc (Lr rd rs1 width) = false
is_sc (Sc rs1 width) = true
is_sc (Plain rd) = false
is_sc (Jump rd offset) = false
is_sc (Branch offset) = false
is_sc Other = false

-- an SC stands before a place: what comes after the first SC
unfoldable pub past_sc : Settings → List ℕ → ℕ → Bool
past_sc settings ws zero = false
past_sc settings ws (suc place) = past_sc settings ws place || is_sc (view_at settings ws place)

-- ---- the reasons 2 to 5, of the word at a place. past says that an SC stands before it; the LR has rs1 and width.

-- 2. "A later word, other than the first SC, isn't LUI, AUIPC, JAL, a branch, or an OP, OP-IMM, OP-32, OP-IMM-32 word of RV64I."
abbrev pub reason2 : Bool → ℕ → View → Bool
reason2 past place (Lr rd rs1 width) = nat_lt 0 place
reason2 past place (Sc rs1 width) = nat_lt 0 place && past
reason2 past place (Plain rd) = false
reason2 past place (Jump rd offset) = false
reason2 past place (Branch offset) = false
reason2 past place Other = nat_lt 0 place

-- 3. "A JAL or branch whose offset isn't a multiple of 4; or isn't above 0, unless it stands after the first SC and its target is place 0."
abbrev pub is_above : ℕ → Bool
is_above offset = nat_lt 0 offset && nat_lt offset (2 ^ 63)

abbrev pub to_start : ℕ → ℕ → Bool
to_start place offset = (4 * place + offset) % 2 ^ 64 == 0

unfoldable pub wrong_offset : Bool → ℕ → ℕ → Bool
wrong_offset past place offset = not (offset % 4 == 0) || (not (is_above offset) && not (past && to_start place offset))

abbrev pub reason3 : Bool → ℕ → View → Bool
reason3 past place (Lr rd rs1 width) = false
reason3 past place (Sc rs1 width) = false
reason3 past place (Plain rd) = false
reason3 past place (Jump rd offset) = wrong_offset past place offset
reason3 past place (Branch offset) = wrong_offset past place offset
reason3 past place Other = false

-- 4. "The LR or a word before the first SC has rd equal to the LR's rs1, which isn't x0." A word that isn't permitted has the lower reason 2.
unfoldable pub clobbers : ℕ → ℕ → Bool
clobbers rs1 rd = rd == rs1 && not (rs1 == 0)

abbrev pub reason4 : ℕ → Bool → View → Bool
reason4 rs1 past (Lr rd s w) = not past && clobbers rs1 rd
reason4 rs1 past (Sc s w) = false
reason4 rs1 past (Plain rd) = not past && clobbers rs1 rd
reason4 rs1 past (Jump rd offset) = not past && clobbers rs1 rd
reason4 rs1 past (Branch offset) = false
reason4 rs1 past Other = false

-- 5. "The first SC has another width or another rs1 than the LR."
abbrev pub reason5 : ℕ → ℕ → Bool → View → Bool
reason5 rs1 width past (Lr rd s w) = false
reason5 rs1 width past (Sc s w) = not past && (not (w == width) || not (s == rs1))
reason5 rs1 width past (Plain rd) = false
reason5 rs1 width past (Jump rd offset) = false
reason5 rs1 width past (Branch offset) = false
reason5 rs1 width past Other = false

-- "at that place the lowest reason", or 0
unfoldable pub lowest_of : ℕ → ℕ → Bool → ℕ → View → ℕ
lowest_of rs1 width past place v =
    cond (reason2 past place v) 2 (cond (reason3 past place v) 3 (cond (reason4 rs1 past v) 4 (cond (reason5 rs1 width past v) 5 0)))

-- the same as an option
abbrev pub reason_in : ℕ → Option ℕ
reason_in zero = None
reason_in (suc r) = Some (suc r)

-- ---- the block

-- a reason at a place, or what comes after
abbrev pub or_else : ℕ → ℕ → LoopAnswer → LoopAnswer
or_else place zero rest = rest
or_else place (suc r) rest = Rejected place (suc r)

-- "the lowest place with a reason", from a place on that has n words from it to the end
-- 6. "No SC (given at the place after the last word)."
unfoldable pub scan_of : Settings → ℕ → ℕ → List ℕ → ℕ → ℕ → LoopAnswer
scan_of settings rs1 width ws zero place = cond (past_sc settings ws place) Accepted (Rejected place 6)
scan_of settings rs1 width ws (suc n) place =
    or_else place (lowest_of rs1 width (past_sc settings ws place) place (view_at settings ws place)) (scan_of settings rs1 width ws n (suc place))

-- 1. "Place 0 isn't an LR."
unfoldable pub start_of : Settings → View → List ℕ → LoopAnswer
start_of settings (Lr rd rs1 width) ws = scan_of settings rs1 width ws (length ws) 0
start_of settings (Sc rs1 width) ws = Rejected 0 1
start_of settings (Plain rd) ws = Rejected 0 1
start_of settings (Jump rd offset) ws = Rejected 0 1
start_of settings (Branch offset) ws = Rejected 0 1
start_of settings Other ws = Rejected 0 1

-- 01, refusal 6: "loop block of fewer than 2 or more than 16 words"; before it 02 [7], refusal 2: "any other version", and so any kind that is neither of
-- [10]'s. Of the settings only version and kind are looked at: no set size is refused here
unfoldable pub check_of : Settings → List ℕ → LoopAnswer
check_of settings ws =
    cond (reading_ok settings)
    (cond (nat_lt (length ws) 2) (Refused 6) (cond (nat_lt 16 (length ws)) (Refused 6) (start_of settings (view_at settings ws 0) ws)))
    (Refused 2)

-- the first n words of a block given as bytes
unfoldable pub words_of : List ℕ → ℕ → List ℕ
words_of bytes zero = []
words_of bytes (suc n) = words_of bytes n ++ (le (part bytes (4 * n) 4) ∷ [])

-- ---- the same by the table of classes

-- the classes of reason 2's words, and that of JALR where the version permits it
abbrev pub permitted_class : Settings → Option Class → Bool
permitted_class settings (Some C.Lui) = true
permitted_class settings (Some C.Auipc) = true
permitted_class settings (Some C.Jal) = true
permitted_class settings (Some C.Branch) = true
permitted_class settings (Some C.Op) = true
permitted_class settings (Some C.OpImm) = true
permitted_class settings (Some C.Op32) = true
permitted_class settings (Some C.OpImm32) = true
permitted_class settings (Some C.Jalr) = jalr_permitted settings
permitted_class settings (Some C.Load) = false
permitted_class settings (Some C.MiscMem) = false
permitted_class settings (Some C.Store) = false
permitted_class settings (Some C.Amo) = false
permitted_class settings (Some C.System) = false
permitted_class settings None = false

-- with that of LR and SC
abbrev pub looked_at : Settings → Option Class → Bool
looked_at settings (Some C.Amo) = true
looked_at settings c = permitted_class settings c

-- an instruction by its rd and, of a JAL or a branch, its offset, whether it is permitted or not. No reason asks where a JALR leads
unfoldable pub fields_of : Instr → View
fields_of I.Illegal = Other
fields_of (I.Lui rd imm) = Plain rd
fields_of (I.Auipc rd imm) = Plain rd
fields_of (I.Jal rd imm) = Jump rd imm
fields_of (I.Jalr rd rs1 imm) = Plain rd
fields_of (I.Branch op rs1 rs2 imm) = Branch imm
fields_of (I.Load op rd rs1 imm) = Plain rd
fields_of (I.Store op rs1 rs2 imm) = Other
fields_of (I.OpImm op rd rs1 imm) = Plain rd
fields_of (I.OpImm32 op rd rs1 imm) = Plain rd
fields_of (I.Op op rd rs1 rs2) = Plain rd
fields_of (I.Op32 op rd rs1 rs2) = Plain rd
fields_of (I.Fence rd rs1 imm) = Plain rd
fields_of I.Ecall = Other
fields_of I.Ebreak = Other
fields_of (I.Amo a) = atomic_view a.op a
