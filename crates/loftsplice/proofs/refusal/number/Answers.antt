-- `refusal::number` meets its contract: a refusal's number is one more than its place in the enum. Assumes nothing.
use Rattle.std.proofs.Common.{◌≡◌, ℕ, suc, [], ◌∷◌, sym, refl, ap, ◌∙◌}
use types.Run.{OneOf}
use denote.Enum.Declared.{tag_of}
use Rattle.meaning.specs.contracts.Refusal as R
use Rattle.meaning.specs.declared.Refusal.{Refusal}
use Rattle.meaning.specs.declared.Refusal.TheVariants.{Shape, Ends, Reach, Index, Window, Scan, Order, Bounds, Input, Room, Cut, Kind, Size}
use Rattle.meaning.specs.declared.Refusal.TheVariants.{Count, Range, Profile, Falling, Total}
use Rattle.meaning.specs.Refusals.{number_of}
use Rattle.loftsplice.proofs.refusal.number.Goals as goal

counted : (why : Refusal) → suc (tag_of R.the_type why) ≡ number_of why
counted = elim [
  | Shape ↦ refl
  | Ends ↦ refl
  | Reach ↦ refl
  | Index ↦ refl
  | Window ↦ refl
  | Scan ↦ refl
  | Order ↦ refl
  | Bounds ↦ refl
  | Input ↦ refl
  | Room ↦ refl
  | Cut ↦ refl
  | Kind ↦ refl
  | Size ↦ refl
  | Count ↦ refl
  | Range ↦ refl
  | Profile ↦ refl
  | Falling ↦ refl
  | Total ↦ refl
]

told : (k : ℕ) (why : Refusal) → OneOf (k ∷ []) (tag_of R.the_type why) → suc k ≡ number_of why
told k why e = ap suc (sym e) ∙ counted why

pub returns-in-Shape : goal.returns-in-Shape
returns-in-Shape c = told 0 c.args.why c.in-Shape.in-Shape-own.keys1

pub returns-in-Ends : goal.returns-in-Ends
returns-in-Ends c = told 1 c.args.why c.in-Ends.in-Ends-own.keys2

pub returns-in-Reach : goal.returns-in-Reach
returns-in-Reach c = told 2 c.args.why c.in-Reach.in-Reach-own.keys3

pub returns-in-Index : goal.returns-in-Index
returns-in-Index c = told 3 c.args.why c.in-Index.in-Index-own.keys4

pub returns-in-Window : goal.returns-in-Window
returns-in-Window c = told 4 c.args.why c.in-Window.in-Window-own.keys5

pub returns-in-Scan : goal.returns-in-Scan
returns-in-Scan c = told 5 c.args.why c.in-Scan.in-Scan-own.keys6

pub returns-in-Order : goal.returns-in-Order
returns-in-Order c = told 6 c.args.why c.in-Order.in-Order-own.keys7

pub returns-in-Bounds : goal.returns-in-Bounds
returns-in-Bounds c = told 7 c.args.why c.in-Bounds.in-Bounds-own.keys8

pub returns-in-Input : goal.returns-in-Input
returns-in-Input c = told 8 c.args.why c.in-Input.in-Input-own.keys9

pub returns-in-Room : goal.returns-in-Room
returns-in-Room c = told 9 c.args.why c.in-Room.in-Room-own.keys10

pub returns-in-Cut : goal.returns-in-Cut
returns-in-Cut c = told 10 c.args.why c.in-Cut.in-Cut-own.keys11

pub returns-in-Kind : goal.returns-in-Kind
returns-in-Kind c = told 11 c.args.why c.in-Kind.in-Kind-own.keys12

pub returns-in-Size : goal.returns-in-Size
returns-in-Size c = told 12 c.args.why c.in-Size.in-Size-own.keys13

pub returns-in-Count : goal.returns-in-Count
returns-in-Count c = told 13 c.args.why c.in-Count.in-Count-own.keys14

pub returns-in-Range : goal.returns-in-Range
returns-in-Range c = told 14 c.args.why c.in-Range.in-Range-own.keys15

pub returns-in-Profile : goal.returns-in-Profile
returns-in-Profile c = told 15 c.args.why c.in-Profile.in-Profile-own.keys16

pub returns-in-Falling : goal.returns-in-Falling
returns-in-Falling c = told 16 c.args.why c.in-Falling.in-Falling-own.keys17

pub returns-in-Total : goal.returns-in-Total
returns-in-Total c = told 17 c.args.why c.in-Total.in-Total-own.keys18
