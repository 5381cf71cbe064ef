-- Each way to an answer of this crate, and why it is the answer that is promised. Assumes nothing.
use Rattle.std.proofs.Common.{◌≡◌, ℕ, pred, ◌<◌, Bool, true, cond, eqb, ltb, List, Result, sym, refl, ap, ◌∙◌, arith}
use lib.Arith.{digits_div, digits_mod}
use Rattle.std.proofs.lemmas.Bool.Decides.{nat_tests}
use Rattle.refusal.specs.declared.Refusal.{Refusal}
use Rattle.refusal.specs.Numbers.{numbered}
use Rattle.code.specs.declared.pair.Pair.{Pair}
use Rattle.code.specs.Pairs.{rows_of, admitted, IsAdmitted}
use Rattle.code.specs.Rows.{digit, row, held, low, changed, moved, place}
use Rattle.code.specs.Generator.{Blocks, by_place, closed, grown}
use Rattle.code.specs.Answers.{entry_answer, entry_of, GeneratorEntry}
use Rattle.code.proofs.Admission.{admitted_true, true_admitted}
use Rattle.code.proofs.Digits.{row_ext}
use Rattle.code.proofs.Generators.{closed_place, grown_is_closed, one_generator}

pub pair_admitted : (p : Pair) → admitted p.m p.k ≡ true
pair_admitted p = true_admitted p.m p.k p.r p.admitted

-- the row folded from lowered digits is the place
pub folded_place : (m n i j y : ℕ) (digits lowered : List ℕ) → ((t : ℕ) → held digits t ≡ digit m n t y)
    → ((t : ℕ) → held lowered t ≡ cond (ltb t j) (low m i (held digits t)) (held digits t)) → row m n (held lowered) ≡ place m n i j y
unfolding moved
folded_place m n i j y digits lowered d l =
    row_ext m n (held lowered) (changed m n (low m i) j y) (λ t _. l t ∙ ap (λ a. cond (ltb t j) (low m i a) a) (d t))

-- two answers that agree where they are given
entry_same : (m k i y j x : ℕ) (b c : Bool) → (IsAdmitted m k (rows_of m k) → j < k → y < rows_of m k → x < rows_of m k → b ≡ c)
    → entry_answer m k i y j x b ≡ entry_answer m k i y j x c
entry_same m k i y j x b c h = grind (arith, nat_tests, h, admitted_true m k (rows_of m k))

-- an entry of the assembled matrix is an entry of the block
entry_of_block : (generator : ℕ → ℕ → Blocks) (m k i y j x : ℕ) → y < rows_of m k → x < rows_of m k → generator m k i j y x ≡ entry_of generator m k i y j x
entry_of_block generator m k i y j x hy hx = rw (digits_div i hy, digits_div j hx, digits_mod i hy, digits_mod j hx)

-- one equation gives the whole promise
pub generator_entry : {m k i y j x : ℕ} {answer : Result Bool Refusal} → numbered answer ≡ entry_answer m k i y j x (eqb x (place m (pred k) i j y)) → GeneratorEntry m k i y j x answer
unfolding rows_of
generator_entry {m} {k} {i} {y} {j} {x} e = record {
  whether_x_is_the_place = e;
  entry_by_place = e ∙ same by_place (λ a hj hy hx. refl);
  entry_in_closed_form = e ∙ same closed (λ a hj hy hx. sym (closed_place m (pred k) i j y x (omega arith) hy hx));
  entry_grown = e ∙ same grown (λ a hj hy hx. sym (grown_is_closed m k i j y x (omega arith) a.some_data hj hy hx ∙ closed_place m (pred k) i j y x (omega arith) hy hx));
  three_ways_one_generator = one_generator;
}
  where
    same : (generator : ℕ → ℕ → Blocks) → (IsAdmitted m k (rows_of m k) → j < k → y < rows_of m k → x < rows_of m k → eqb x (place m (pred k) i j y) ≡ generator m k i j y x)
        → entry_answer m k i y j x (eqb x (place m (pred k) i j y)) ≡ entry_answer m k i y j x (entry_of generator m k i y j x)
    same generator h = entry_same m k i y j x _ _ (λ a hj hy hx. h a hj hy hx ∙ entry_of_block generator m k i y j x hy hx)
