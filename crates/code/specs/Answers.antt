-- What the calls of this crate answer, refusals with it. Assumes nothing.
use Rattle.std.specs.Prelude.{◌≡◌, ℕ, pred, ◌+◌, ◌*◌, Bool, true, false, cond, ◌&&◌, Ok, Err, Result, MatchResult, ◌==◌, nat_lt}
use Rattle.refusal.specs.declared.Refusal.{Refusal}
use Rattle.refusal.specs.Numbers.{number_of, numbered}
use Rattle.code.specs.declared.pair.Pair.{Pair}
use Rattle.code.specs.Pairs.{rows_of, admitted}
use Rattle.code.specs.Rows.{place}
use Rattle.code.specs.Generator.{Blocks, assembled, by_place, closed, grown, ThreeWaysOneGenerator}

-- a pair is answered just where m and k are admitted, and it is that pair
abbrev pub Admits : ℕ → ℕ → Result Pair Refusal → Type 0
Admits m k answer = MatchResult answer (λ p. (admitted m k ≡ true) × (p.m ≡ m) × (p.k ≡ k)) (λ e. (admitted m k ≡ false) × (number_of e ≡ 2))

-- an answer where the pair is admitted and the indices are inside, else the number of the refusal
abbrev pub checked : {X : Type 0} → ℕ → ℕ → Bool → X → Result X ℕ
checked m k inside x = cond (admitted m k) (cond inside (Ok x) (Err 3)) (Err 2)

-- i is a parity number, j a data box and y a row
abbrev pub inside : ℕ → ℕ → ℕ → ℕ → ℕ → Bool
inside m k i j y = nat_lt i m && (nat_lt j k && nat_lt y (rows_of m k))

abbrev pub place_answer : ℕ → ℕ → ℕ → ℕ → ℕ → Result ℕ ℕ
place_answer m k i j y = checked m k (inside m k i j y) (place m (pred k) i j y)

-- what is said of an entry of the generator, with x a row too
abbrev pub entry_answer : ℕ → ℕ → ℕ → ℕ → ℕ → ℕ → Bool → Result Bool ℕ
entry_answer m k i y j x bit = checked m k (inside m k i j y && nat_lt x (rows_of m k)) bit

-- the entry of a generator at matrix row i × r + y and column j × r + x
abbrev pub entry_of : (ℕ → ℕ → Blocks) → ℕ → ℕ → ℕ → ℕ → ℕ → ℕ → Bool
entry_of generator m k i y j x = assembled (rows_of m k) (generator m k) (i * rows_of m k + y) (j * rows_of m k + x)

-- what `entry` promises of its answer: it is the entry of the one generator, whichever way that is made
pub record GeneratorEntry (m k i y j x : ℕ) (answer : Result Bool Refusal) : Type 0 where
  pub whether_x_is_the_place : numbered answer ≡ entry_answer m k i y j x (x == place m (pred k) i j y)
  pub entry_by_place : numbered answer ≡ entry_answer m k i y j x (entry_of by_place m k i y j x)
  pub entry_in_closed_form : numbered answer ≡ entry_answer m k i y j x (entry_of closed m k i y j x)
  pub entry_grown : numbered answer ≡ entry_answer m k i y j x (entry_of grown m k i y j x)
  pub three_ways_one_generator : ThreeWaysOneGenerator
