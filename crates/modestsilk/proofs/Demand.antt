-- Reading meets its demand, for both sets, forms and all addresses. Assumes nothing.
use mathlib.Core.List.{List}
use mathlib.Core.Path.{◌≡◌, refl}
use Prim.Native.Nat.{ℕ, ◌<◌, ◌^◌}
use borrow.Author.Tests.{ltb-true, ltb-false}
use lib.Dec.{ltb}
use native.Mathlib.Omega.{arith}
use Rattle.common.proofs.Tests.{by_test}
use Rattle.lines.specs.Answer.{Answer}
use Rattle.arm7tdmi.specs.declared.Form.{Form}
use Rattle.arm_print.specs.Print.{arm_line}
use Rattle.arm_lowest.specs.Read.{read_arm}
use Rattle.arm_read.specs.Answer as Arm
use Rattle.thumb_print.specs.Print.{thumb_line}
use Rattle.thumb_lowest.specs.Read.{read_thumb}
use Rattle.thumb_read.specs.Answer as Thumb
use Rattle.reading.specs.Read.{read_back}
use Rattle.reading.proofs.Demand as Any
use Rattle.modestsilk.specs.Demand.{Demand}

four_not_zero : ◌≡◌ {A = ℕ} 4 0 → ⊥
four_not_zero e = omega arith

-- a word below the bound with number 0, or number 4 with word 0
module _ (print : ℕ → Answer) (bound : ℕ) (l : List ℕ) where
  abbrev n : ℕ
  n = read_back print bound l

  success : n < bound → Demand print bound l 0 n
  success h = record {
    prints = λ e. (h, (Any.read_prints print bound l n h refl).0);
    lowest = λ e. (Any.read_prints print bound l n h refl).1;
    found = λ w g p o. (refl, Any.prints_read print bound l w g p o);
    none = λ e. omega arith;
    refused = λ f. absurd (f n h (Any.read_prints print bound l n h refl).0);
  }

  failure : n ≡ bound → Demand print bound l 4 0
  failure e = record {
    prints = λ z. absurd (four_not_zero z);
    lowest = λ z. absurd (four_not_zero z);
    found = λ w g p o. absurd (Any.none_prints print bound l e w g p);
    none = λ z. Any.none_prints print bound l e;
    refused = λ f. (refl, refl);
  }

pub arm_demand : (form : Form) (address : ℕ) (l : List ℕ) → Demand (arm_line form address) (2 ^ 32) l (Arm.read_number (Arm.read_answer form address l)) (Arm.read_word (Arm.read_answer form address l))
unfolding Arm.read_answer read_arm
arm_demand form address l =
    let print = arm_line form address in
    let r = read_back print (2 ^ 32) l in
    by_test (ltb r (2 ^ 32))
    (λ e. rw e (success print (2 ^ 32) l (ltb-true r (2 ^ 32) e)))
    (λ e. rw e (failure print (2 ^ 32) l (let m = Any.read_most print (2 ^ 32) l in let k = ltb-false r (2 ^ 32) e in omega arith)))

pub thumb_demand : (form : Form) (address : ℕ) (l : List ℕ) → Demand (thumb_line form address) (2 ^ 16) l (Thumb.read_number (Thumb.read_answer form address l)) (Thumb.read_word (Thumb.read_answer form address l))
unfolding Thumb.read_answer read_thumb
thumb_demand form address l =
    let print = thumb_line form address in
    let r = read_back print (2 ^ 16) l in
    by_test (ltb r (2 ^ 16))
    (λ e. rw e (success print (2 ^ 16) l (ltb-true r (2 ^ 16) e)))
    (λ e. rw e (failure print (2 ^ 16) l (let m = Any.read_most print (2 ^ 16) l in let k = ltb-false r (2 ^ 16) e in omega arith)))
