-- The places of a reading list rise, and are just those that are given. Assumes nothing.
use Rattle.std.proofs.Common.{◌≡◌, ℕ, zero, suc, ◌<◌, ◌≤◌, Bool, true, false, cond, List, [], ◌∷◌, ◌++◌, inl, inr, ⊎_elim, refl, append_assoc, append-nil, arith}
use Rattle.std.specs.List.{All, Contains}
use Rattle.std.proofs.lemmas.List.Elements.{All-nil, All-push, All-weaker, All-contains, Contains-append_left, Contains-append_right, Contains-push}
use Rattle.std.proofs.lemmas.List.Quantifiers.{all_pairs_push}
use Rattle.std.proofs.lemmas.Bool.{cases_lt}
use Rattle.lists.specs.declared.place.Place.{Place}
use Rattle.lists.specs.ReadingLists.{place_at, rows_where, places_where}
use Rattle.lists.specs.ListLaws.{Before, Rising}

module _ (p : ℕ → ℕ → Bool) (r : ℕ) where
  -- a place that passes, before row y of box n
  abbrev Passed : ℕ → ℕ → Place → Type 0
  Passed n y q = Before q (place_at n y) × (q.row < r) × (p q.box_number q.row ≡ true)

  record Sorted (n y : ℕ) (places : List Place) : Type 0 where
    passed : All (Passed n y) places
    rising : Rising places

  -- one row more
  later : (n y : ℕ) (q : Place) → Passed n y q → Passed n (suc y) q
  later n y q h = (⊎_elim inl (λ e. inr (e.0, omega (arith, e.1))) h.0, h.1, h.2)

  sorted_more : (n y : ℕ) (places : List Place) → y < r → Sorted n y places → (t : Bool) → p n y ≡ t → Sorted n (suc y) (places ++ cond t (place_at n y ∷ []) [])
  sorted_more n y places l s true e = record {
    passed = All-push (Passed n (suc y)) places (place_at n y) (All-weaker (Passed n y) (Passed n (suc y)) (later n y) places s.passed) (inr (refl, omega arith), l, e);
    rising = all_pairs_push Before places (place_at n y) s.rising (λ k d h. (s.passed k d h).0);
  }
  sorted_more n y places l s false e = rw append-nil (record { passed = All-weaker (Passed n y) (Passed n (suc y)) (later n y) places s.passed; rising = s.rising })

  rows_sorted : (n y : ℕ) → y ≤ r → Sorted n 0 (places_where p r n) → Sorted n y (places_where p r n ++ rows_where (p n) n y)
  unfolding rows_where
  rows_sorted n zero l s = rw append-nil s
  rows_sorted n (suc y) l s = rw (← append_assoc) (sorted_more n y (places_where p r n ++ rows_where (p n) n y) l (rows_sorted n y (omega arith) s) (p n y) refl)

  sorted : (n : ℕ) → Sorted n 0 (places_where p r n)
  unfolding places_where
  sorted zero = record { passed = All-nil (Passed 0 0); rising = λ i j d h l. absurd (omega arith) }
  sorted (suc n) =
      let s = rows_sorted n r (omega arith) (sorted n) in
      record { passed = All-weaker (Passed n r) (Passed (suc n) 0) (λ q h. (inl (omega (arith, h.0)), h.1, h.2)) _ s.passed; rising = s.rising }

  pub places_rise : (n : ℕ) → Rising (places_where p r n)
  places_rise n = (sorted n).rising

  pub only_places : (n b y : ℕ) → Contains (places_where p r n) (place_at b y) → (b < n) × (y < r) × (p b y ≡ true)
  only_places n b y h =
      let here = All-contains (Passed n 0) (places_where p r n) (place_at b y) (sorted n).passed h in
      (omega (arith, here.0), here.1, here.2)

  -- a list that grows by parts has what a part of it has
  has_part : (L part : ℕ → List Place) → ((n : ℕ) → L (suc n) ≡ L n ++ part n) → (n k : ℕ) (q : Place) → k < n → Contains (part k) q → Contains (L n) q
  has_part L part more zero k q l h = absurd (omega arith)
  has_part L part more (suc n) k q l h =
      rw more (⊎_elim
      (λ lt. Contains-append_left (L n) (part n) q (has_part L part more n k q lt h))
      (λ le. let e : k ≡ n = omega arith in Contains-append_right (L n) (part n) q (rw e at h))
      (cases_lt k n))

  pub all_places : (n b y : ℕ) → b < n → y < r → p b y ≡ true → Contains (places_where p r n) (place_at b y)
  unfolding places_where rows_where
  all_places n b y lb ly e =
      has_part (places_where p r) (λ k. rows_where (p k) k r) (λ _. refl) n b (place_at b y) lb
      (has_part (rows_where (p b) b) (λ k. cond (p b k) (place_at b k ∷ []) []) (λ _. refl) r y (place_at b y) ly (rw e (Contains-push [] (place_at b y))))
