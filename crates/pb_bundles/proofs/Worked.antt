-- The moves on a few rows.
use Rattle.std.proofs.Common.{◌≡◌, [], ◌∷◌, Some, None, refl, true, false}
use Rattle.pb_lists.specs.Bundle.{Content}
use Rattle.pb_bundles.specs.Parts.{content_in, with_content}
use Rattle.pb_bundles.specs.Moves.{is_among, vacated, moved, put_back}

module _ (a b c d : Content) where
  -- blocks 2 and 0 leave, in this order
  left : vacated (2 ∷ 0 ∷ []) (Some a ∷ Some b ∷ Some c ∷ []) ≡ None ∷ Some b ∷ None ∷ []
  left = refl

  taken : moved (2 ∷ 0 ∷ []) (Some a ∷ Some b ∷ Some c ∷ []) ≡ (2, c) ∷ (0, a) ∷ []
  taken = refl

  -- the bundle of block 2 is changed
  changed : with_content ((2, c) ∷ (0, a) ∷ []) 2 d ≡ (2, d) ∷ (0, a) ∷ []
  changed = refl

  found : content_in ((2, d) ∷ (0, a) ∷ []) 0 ≡ Some a
  found = refl

  -- a block that isn't among them isn't found
  not_found : content_in ((2, d) ∷ (0, a) ∷ []) 1 ≡ None
  not_found = refl

  -- both come back, each to its own place
  back : put_back ((2, d) ∷ (0, a) ∷ []) (None ∷ Some b ∷ None ∷ []) ≡ Some a ∷ Some b ∷ Some d ∷ []
  back = refl

in_scope : is_among (2 ∷ 0 ∷ []) 0 ≡ true
in_scope = refl

out_of_scope : is_among (2 ∷ 0 ∷ []) 1 ≡ false
out_of_scope = refl
