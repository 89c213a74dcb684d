-- Classes and their numbers. Assumes nothing.
use Rattle.std.proofs.Common.{◌≡◌, ℕ, List, sym, refl, ap, ◌∙◌, Option, Some, None}
use mathlib.Core.List.{map, [], ◌∷◌}
use Rattle.word.specs.Choose.{Row, ◌⇒◌, select}
use Rattle.isa.specs.Decode.{classes, class_number}
use Rattle.isa.specs.declared.class.Class.{Class}
use Rattle.isa.specs.declared.class.Class.TheVariants as C

abbrev numbered : List (Row Class)
numbered =
    1 ⇒ C.Load ∷
    2 ⇒ C.MiscMem ∷
    3 ⇒ C.OpImm ∷
    4 ⇒ C.Auipc ∷
    5 ⇒ C.OpImm32 ∷
    6 ⇒ C.Store ∷
    7 ⇒ C.Amo ∷
    8 ⇒ C.Op ∷
    9 ⇒ C.Lui ∷
    10 ⇒ C.Op32 ∷
    11 ⇒ C.Branch ∷
    12 ⇒ C.Jalr ∷
    13 ⇒ C.Jal ∷
    14 ⇒ C.System ∷
    []

abbrev class_numbered : ℕ → Option Class
class_numbered n = select n numbered Some None

back : (c : Option Class) → class_numbered (class_number c) ≡ c
back None = refl
back (Some C.Load) = refl
back (Some C.MiscMem) = refl
back (Some C.OpImm) = refl
back (Some C.Auipc) = refl
back (Some C.OpImm32) = refl
back (Some C.Store) = refl
back (Some C.Amo) = refl
back (Some C.Op) = refl
back (Some C.Lui) = refl
back (Some C.Op32) = refl
back (Some C.Branch) = refl
back (Some C.Jalr) = refl
back (Some C.Jal) = refl
back (Some C.System) = refl

-- no two classes have one number, and none has 0
pub class_numbers : (c d : Option Class) → class_number c ≡ class_number d → c ≡ d
class_numbers c d e = sym (back c) ∙ ap class_numbered e ∙ back d

abbrev pub number_in : Row Class → ℕ
number_in (n ⇒ c) = class_number (Some c)

-- in the map's order the classes have the numbers from 1 to 14
pub numbered_in_order : map number_in classes ≡ 1 ∷ 2 ∷ 3 ∷ 4 ∷ 5 ∷ 6 ∷ 7 ∷ 8 ∷ 9 ∷ 10 ∷ 11 ∷ 12 ∷ 13 ∷ 14 ∷ []
numbered_in_order = refl
