-- What is true of the reading lists for every pair. Assumes nothing.
use Rattle.std.specs.Prelude.{◌≡◌, ℕ, ◌+◌, ◌-◌, ◌*◌, ◌/◌, ◌<◌, ◌≤◌, true, ◌⊎◌, List, length}
use Rattle.std.specs.List.{Contains, AllPairs}
use Rattle.code.specs.Pairs.{rows_of}
use Rattle.lists.specs.declared.place.Place.{Place}
use Rattle.lists.specs.ReadingLists.{gives, place_at, reading_list}

-- boxes rising, then rows rising
abbrev pub Before : Place → Place → Type 0
Before p q = (p.box_number < q.box_number) ⊎ ((p.box_number ≡ q.box_number) × (p.row < q.row))

-- each place stands before all that follow it
abbrev pub Rising : List Place → Type 0
Rising places = AllPairs Before places

pub record ListLaws (m k : ℕ) : Type 0 where
  -- of a lost data box, one block in m from each of the m + k - 1 other boxes
  pub data_box_takes_one_block_in_m : (f c : ℕ) → f < k → c < m → length (reading_list m k f c) ≡ (m + k - 1) * (rows_of m k / m)
  -- of a lost parity box, all of each data box
  pub parity_box_takes_all_data : (f c : ℕ) → k ≤ f → length (reading_list m k f c) ≡ k * rows_of m k
  pub boxes_rise_then_rows : (f c : ℕ) → Rising (reading_list m k f c)
  pub only_given_places : (f c b y : ℕ) → Contains (reading_list m k f c) (place_at b y) → (b < m + k) × (y < rows_of m k) × (gives m k f c b y ≡ true)
  pub all_given_places : (f c b y : ℕ) → b < m + k → y < rows_of m k → gives m k f c b y ≡ true → Contains (reading_list m k f c) (place_at b y)

abbrev pub ListLawsHold : Type 0
ListLawsHold = (m k : ℕ) → 0 < m → 2 ≤ k → ListLaws m k
