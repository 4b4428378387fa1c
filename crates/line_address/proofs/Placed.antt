-- How what is shown depends on the place: not at all, or by the address that a line ends in; and what follows from that. Assumes nothing.
use Rattle.std.proofs.Common.{◌≡◌, ◌↔◌, ℕ, ltb, ◌-◌, ◌<◌, ◌^◌, List, ◌++◌, length, length-append, Option, Some, None, IfSome, refl, ap, sym, ◌∙◌, arith, ◌⊎◌, inl, inr}
use Rattle.std.proofs.lemmas.List.{append_cancel_left}
use Rattle.std.proofs.Math.Seq.{take-append_seam}
use Rattle.common.proofs.Tests.{by_test}
use Rattle.arm7tdmi.specs.Signed.{moved}
use Rattle.arm7tdmi.specs.declared.Form.TheVariants.{Sheet}
use Rattle.lines.specs.Address.{address}
use Rattle.lines.specs.Answer.{Answer, refused, line, printed}
use Rattle.lines.proofs.Address.{address_back, sheet_within}
use Rattle.line_address.specs.Elsewhere.{raised, showing, with_address}
use Rattle.line_address.specs.Shown.{EndsIn}

-- at each place a line, with the same bytes before the address there
pub record Ends (at : ℕ → Answer) (shown : ℕ → Option ℕ) : Type 0 where
  pub before : List ℕ
  pub target : ℕ → ℕ
  pub small : (p : ℕ) → target p < 2 ^ 32
  pub line_is : (p : ℕ) → at p ≡ line (before ++ address Sheet (target p))
  pub address_is : (p : ℕ) → shown p ≡ Some (target p)

-- the same everywhere
pub record Stays (at : ℕ → Answer) (shown : ℕ → Option ℕ) : Type 0 where
  pub same : (p q : ℕ) → at q ≡ at p
  pub none : (p : ℕ) → shown p ≡ None

abbrev pub Placed : (ℕ → Answer) → (ℕ → Option ℕ) → Type 0
Placed at shown = Ends at shown ⊎ Stays at shown

pub ends : (before : List ℕ) (target : ℕ → ℕ) → ((p : ℕ) → target p < 2 ^ 32) → Placed (λ p. line (before ++ address Sheet (target p))) (λ p. Some (target p))
ends before target small = inl (record { before = before; target = target; small = small; line_is = λ p. refl; address_is = λ p. refl })

pub stays : (a : Answer) → Placed (λ p. a) (λ p. None)
stays a = inr (record { same = λ p q. refl; none = λ p. refl })

-- ---- addresses at the end of a line
ends_length : (before : List ℕ) (n : ℕ) → length (before ++ address Sheet n) - 10 ≡ length before
ends_length before n = let w = sheet_within n in simp length-append (omega arith)

same_length : (before : List ℕ) (m n : ℕ) → length (before ++ address Sheet m) ≡ length (before ++ address Sheet n)
same_length before m n =
    let v = sheet_within m in
    let w = sheet_within n in
    simp length-append (omega arith)

other_address : (before : List ℕ) (m n : ℕ) → with_address (Some n) (before ++ address Sheet m) ≡ before ++ address Sheet n
unfolding with_address
other_address before m n = rw (ends_length before m, take-append_seam)

same_address : (before : List ℕ) (m n : ℕ) → m < 2 ^ 32 → n < 2 ^ 32 → line (before ++ address Sheet m) ≡ line (before ++ address Sheet n) → m ≡ n
same_address before m n h k e =
    let q = append_cancel_left before (address Sheet m) (address Sheet n) cc in
    sym (address_back Sheet m h) ∙ rw q (address_back Sheet n k)

by_length : (xs bs ys : List ℕ) → length xs ≡ length bs → (printed (line xs) ys).0 ≡ (printed (line bs) ys).0
unfolding printed
by_length xs bs ys e = by_test (ltb (length ys) (length bs)) (λ t. rw (e, t)) (λ t. rw (e, t))

no_address : (a : Answer) → showing None a ≡ a
unfolding showing with_address
no_address (refused r) = refl
no_address (line bs) = refl

-- ---- what follows
module _ {at : ℕ → Answer} {shown : ℕ → Option ℕ} where
  -- elsewhere all bytes but the address are the same
  pub elsewhere : Placed at shown → (p q : ℕ) → at q ≡ showing (shown q) (at p)
  unfolding showing
  elsewhere (inl e) p q = rw (e.line_is q, e.line_is p, e.address_is q) (ap line (sym (other_address e.before (e.target p) (e.target q))))
  elsewhere (inr s) p q = rw (s.none q) (s.same p q ∙ sym (no_address (at p)))

  pub ends_in : Placed at shown → (p : ℕ) → IfSome (shown p) (EndsIn (at p))
  ends_in (inl e) p = rw (e.address_is p) (e.before, e.line_is p)
  ends_in (inr s) p = rw (s.none p) tt

  -- no address is shown just where the line is the same everywhere
  pub unmoved : Placed at shown → (p : ℕ) → shown (moved p 4) ≡ raised 4 (shown p) → (shown p ≡ None) ↔ ((d : ℕ) → at (moved p d) ≡ at p)
  unmoved (inl e) p r = (λ n. absurd (some_none (sym (e.address_is p) ∙ n)), λ f. absurd (differs (f 4)))
    where
      some_none : {n : ℕ} → Some n ≡ None → ⊥
      some_none q = cc

      differs : at (moved p 4) ≡ at p → ⊥
      differs f =
          let t : Some (e.target (moved p 4)) ≡ Some (moved (e.target p) 4) = sym (e.address_is (moved p 4)) ∙ r ∙ rw (e.address_is p) in
          let u : e.target (moved p 4) ≡ moved (e.target p) 4 = cc in
          let k = e.small p in
          let q = same_address e.before (e.target (moved p 4)) (e.target p) (e.small (moved p 4)) k (sym (e.line_is (moved p 4)) ∙ f ∙ e.line_is p) in
          omega arith
  unmoved (inr s) p r = (λ n d. s.same p (moved p d), λ f. s.none p)

  -- into any buffer, the length or the refusal is the same
  pub same_answer : Placed at shown → (p q : ℕ) (ys : List ℕ) → (printed (at q) ys).0 ≡ (printed (at p) ys).0
  same_answer (inl e) p q ys =
      rw (e.line_is q, e.line_is p) (by_length (e.before ++ address Sheet (e.target q)) (e.before ++ address Sheet (e.target p)) ys (same_length e.before (e.target q) (e.target p)))
  same_answer (inr s) p q ys = rw (s.same p q)
