-- The reading lists (repair read sets): what a rebuild of a lost box fetches. Assumes nothing.
use Rattle.std.specs.Prelude.{ℕ, zero, suc, pred, ◌+◌, ◌-◌, ◌%◌, Bool, cond, not, ◌&&◌, List, [], ◌∷◌, ◌++◌, ◌==◌, nat_lt}
use Rattle.code.specs.Pairs.{rows_of}
use Rattle.code.specs.Rows.{digit, low}
use Rattle.lists.specs.declared.place.Place.{Place}

-- a_t, the digit at t of the row y, counted from 1; a_k counts as 0
abbrev pub digit_from_1 : ℕ → ℕ → ℕ → ℕ → ℕ
digit_from_1 m k t y = digit m (pred k) (pred t) y

-- where box 0 is lost: a_1 = c at a data box, and a_1 = (c + i) modulo m at parity box i
abbrev pub first_digit_is : ℕ → ℕ → ℕ → ℕ → ℕ → Bool
first_digit_is m k c b y = digit_from_1 m k 1 y == cond (nat_lt b k) c ((c + (b - k)) % m)

-- where another data box f is lost: (a_f - a_(f + 1)) modulo m = c, at every box
abbrev pub difference_is : ℕ → ℕ → ℕ → ℕ → ℕ → Bool
difference_is m k f c y = low m (digit_from_1 m k (suc f) y) (digit_from_1 m k f y) == c

-- whether list c of the lost box f has the row y of box b: of a data box every other box gives rows, and of a parity
-- box every data box gives all its rows
unfoldable pub gives : ℕ → ℕ → ℕ → ℕ → ℕ → ℕ → Bool
gives m k f c b y =
    cond (nat_lt f k) (not (b == f) && cond (f == 0) (first_digit_is m k c b y) (difference_is m k f c y)) (nat_lt b k)

abbrev pub place_at : ℕ → ℕ → Place
place_at b y = record { box_number = b; row = y }

-- of the first n rows of box b those that pass, rows rising
unfoldable pub rows_where : (ℕ → Bool) → ℕ → ℕ → List Place
rows_where p b zero = []
rows_where p b (suc n) = rows_where p b n ++ cond (p n) (place_at b n ∷ []) []

-- of the first n boxes, with r rows each, the places that pass, boxes rising
unfoldable pub places_where : (ℕ → ℕ → Bool) → ℕ → ℕ → List Place
places_where p r zero = []
places_where p r (suc n) = places_where p r n ++ rows_where (p n) n r

-- list c of the lost box f
unfoldable pub reading_list : ℕ → ℕ → ℕ → ℕ → List Place
reading_list m k f c = places_where (gives m k f c) (rows_of m k) (m + k)

-- how many lists a lost box has: m, or 1 for a parity box
abbrev pub lists_of : ℕ → ℕ → ℕ → ℕ
lists_of m k f = cond (nat_lt f k) m 1
