-- The generator matrix, three ways. Assumes nothing.
use Rattle.std.specs.Prelude.{◌≡◌, ℕ, zero, suc, pred, ◌+◌, ◌-◌, ◌*◌, ◌/◌, ◌%◌, ◌^◌, ◌<◌, ◌≤◌, Bool, true, cond, ◌&&◌, ◌==◌, nat_lt}
use Rattle.code.specs.Rows.{place}

-- a matrix of bits: whether it has a 1 at a row and a column
abbrev pub Matrix : Type 0
Matrix = ℕ → ℕ → Bool

-- a matrix made of blocks: the block of a parity box and a data box
abbrev pub Blocks : Type 0
Blocks = ℕ → ℕ → Matrix

-- the matrix whose blocks, r rows high and r columns wide, are B
abbrev pub assembled : ℕ → Blocks → Matrix
assembled r B y x = B (y / r) (x / r) (y % r) (x % r)

-- one way, by place: row y of parity box i has its 1 for data box j in column place(i, j, y)
abbrev pub by_place : ℕ → ℕ → Blocks
by_place m k i j y x = x == place m (pred k) i j y

-- the identity
abbrev pub identity : Matrix
identity a b = b == a

-- the cell matrix of size m, shifted by i: row a has its 1 in column (a - i) modulo m
abbrev pub cell : ℕ → ℕ → Matrix
cell m i a b = b == (a + (m - i)) % m

-- the Kronecker product with a matrix B of size m
abbrev pub kron : ℕ → Matrix → Matrix → Matrix
kron m A B y x = A (y / m) (x / m) && B (y % m) (x % m)

-- the matrix of size 1 with a 1
abbrev pub one : Matrix
one y x = true

-- the Kronecker product of n matrices of size m: F 0 ⊗ F 1 ⊗ .. ⊗ F (n - 1)
unfoldable pub product : ℕ → ℕ → (ℕ → Matrix) → Matrix
product m zero F = one
product m (suc n) F = kron m (product m n F) (F n)

-- the first j factors are the cell matrix shifted by i, the others the identity
abbrev pub factor : ℕ → ℕ → ℕ → ℕ → Matrix
factor m i j t = cond (nat_lt t j) (cell m i) identity

-- another way, in closed form: k - 1 factors
abbrev pub closed : ℕ → ℕ → Blocks
closed m k i j = product m (pred k) (factor m i j)

-- the third way, grown from two data boxes by adding t more, each time with one digit more for a row: every old
-- block column times the identity, and as new last column the old last one times the cell matrix shifted by i
unfoldable pub grown_by : ℕ → ℕ → Blocks
grown_by m zero i j = cond (j == 0) identity (cell m i)
grown_by m (suc t) i j = cond (nat_lt j (t + 2)) (kron m (grown_by m t i j) identity) (kron m (grown_by m t i (t + 1)) (cell m i))

abbrev pub grown : ℕ → ℕ → Blocks
grown m k = grown_by m (k - 2)

-- two generators have the same entries: m × r rows and k × r columns
abbrev pub SameEntries : (m k : ℕ) → Blocks → Blocks → Type 0
SameEntries m k B C = (y x : ℕ) → y < m * m ^ pred k → x < k * m ^ pred k → assembled (m ^ pred k) B y x ≡ assembled (m ^ pred k) C y x

-- the three ways give one matrix, for every m and k
pub record OneGenerator (m k : ℕ) : Type 0 where
  pub closed_form_is_by_place : SameEntries m k (closed m k) (by_place m k)
  pub grown_is_closed_form : SameEntries m k (grown m k) (closed m k)

abbrev pub ThreeWaysOneGenerator : Type 0
ThreeWaysOneGenerator = (m k : ℕ) → 0 < m → 2 ≤ k → OneGenerator m k
