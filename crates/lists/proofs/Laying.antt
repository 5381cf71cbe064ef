-- The places of a stripe that pass, and how they stand in the caller's list when the first of them are written. Assumes nothing.
use Rattle.std.proofs.Common.{◌≡◌, ℕ, zero, suc, ◌+◌, ◌<◌, ◌≤◌, Bool, List, [], ◌∷◌, ◌++◌, map, length, drop, set, refl, ap, ◌∙◌, ⊎_elim, append_assoc, append-nil, zero-add, add-one, arith}
use Rattle.std.specs.List.{filter, flat_map, range_with_len}
use Rattle.std.proofs.Math.Seq.{set-append_seam}
use Rattle.std.proofs.lemmas.List.{drop_more, length_push, length-append, map-id}
use Rattle.std.proofs.lemmas.Bool.{cases_eq}
use Rattle.std.proofs.lemmas.List.Elements.{filter-append}
use Rattle.std.proofs.lemmas.List.FromFn.{filter_of_map_range_with_len_more, map-range_with_len_more}
use Rattle.std.proofs.lemmas.Grind.{flat_map-append}
use Rattle.lists.specs.declared.place.Place.{Place}
use Rattle.lists.specs.ReadingLists.{place_at, rows_where, places_where}

-- the places of the first n boxes, with r rows each, boxes rising and then rows rising
abbrev pub stripe : ℕ → ℕ → List Place
stripe r n = flat_map (λ b. map (place_at b) (range_with_len 0 r)) (range_with_len 0 n)

abbrev pub passes : (ℕ → ℕ → Bool) → Place → Bool
passes p q = p q.box_number q.row

pub rows_pass : (p : ℕ → ℕ → Bool) (b n : ℕ) → filter (passes p) (map (place_at b) (range_with_len 0 n)) ≡ rows_where (p b) b n
unfolding rows_where
rows_pass p b zero = refl
rows_pass p b (suc n) = rw (add-one, rows_pass p b n) at (filter_of_map_range_with_len_more (passes p) (place_at b) 0 n n (zero-add n))

range_more : (n : ℕ) → range_with_len 0 (suc n) ≡ range_with_len 0 n ++ n ∷ []
range_more n = rw add-one at (simp map-id at (map-range_with_len_more (λ x. x) 0 n n (zero-add n)))

pub places_pass : (p : ℕ → ℕ → Bool) (r n : ℕ) → filter (passes p) (stripe r n) ≡ places_where p r n
unfolding places_where
places_pass p r zero = refl
places_pass p r (suc n) =
    ap (λ xs. filter (passes p) (flat_map (λ b. map (place_at b) (range_with_len 0 r)) xs)) (range_more n)
    ∙ rw (flat_map-append, filter-append, places_pass p r n, append-nil, rows_pass)

-- the places of one box more
pub places_more : (p : ℕ → ℕ → Bool) (r n : ℕ) → places_where p r (n + 1) ≡ places_where p r n ++ rows_where (p n) n r
unfolding places_where
places_more p r n = rw add-one refl

-- those of fewer boxes are no more
pub places_le : (p : ℕ → ℕ → Bool) (r n boxes : ℕ) → n ≤ boxes → length (places_where p r n) ≤ length (places_where p r boxes)
places_le p r n zero l = let e : n ≡ 0 = omega arith in rw e (omega arith)
places_le p r n (suc boxes) l =
    ⊎_elim (λ e. rw e (omega arith))
    (λ ne. let less = places_le p r n boxes (omega arith) in omega (arith, ap length (rw add-one at (places_more p r boxes)), length-append (places_where p r boxes) (rows_where (p boxes) boxes r)))
    (cases_eq n (suc boxes))

-- a list is laid over the first of the caller's places, and how many they are
pub record Laid (list before after : List Place) (count : ℕ) : Type 0 where
  pub list_first : after ≡ list ++ drop (length list) before
  pub counted : count ≡ length list

-- one place more
pub laid_more : (list before after : List Place) (count : ℕ) (x : Place) → Laid list before after count → count < length before → Laid (list ++ x ∷ []) before (set after count x) (count + 1)
laid_more list before after count x laid l = record {
  list_first = rw (laid.list_first, laid.counted, drop_more before (length list) x (omega (arith, laid.counted)), set-append_seam, length_push, append_assoc);
  counted = rw length_push (omega (arith, laid.counted));
}
