-- Laws for callers: what two calls in a row do to what is told, and to a file that grows; and what holds on success or failure.
use Rattle.std.proofs.Common.{◌≡◌, ℕ, ◌≤◌, Option, None, Some, List, ◌++◌, length, take, sym, ap, ◌∙◌, Result, Ok, Err, OnOk, OnErr}
use Rattle.pb_outside.specs.Outside.{Files, IfTold, KeepsOthers, KeepsAll, AppendsTo, AppendsPartTo}

-- P and then Q are R
pub told_then : {A : Type 0} (a b c : Option A) (P Q R : A → A → Type 0) → IfTold a b P → IfTold b c Q → ((x y z : A) → P x y → Q y z → R x z) → IfTold a c R
told_then None None None P Q R p q f = tt
told_then (Some x) (Some y) (Some z) P Q R p q f = f x y z p q
told_then None None (Some z) P Q R p q f = q
told_then (Some x) (Some y) None P Q R p q f = q
told_then None (Some y) c P Q R p q f = absurd p
told_then (Some x) None c P Q R p q f = absurd p

-- P and Q of the same call are R
pub told_both : {A : Type 0} (a b : Option A) (P Q R : A → A → Type 0) → IfTold a b P → IfTold a b Q → ((x y : A) → P x y → Q x y → R x y) → IfTold a b R
told_both None None P Q R p q f = tt
told_both (Some x) (Some y) P Q R p q f = f x y p q
told_both None (Some y) P Q R p q f = p
told_both (Some x) None P Q R p q f = p

-- what follows from P is told too
pub told_as : {A : Type 0} (a b : Option A) (P R : A → A → Type 0) → IfTold a b P → ((x y : A) → P x y → R x y) → IfTold a b R
told_as a b P R p f = told_both a b P P R p p (λ x y one two. f x y one)

pub others_then : (x y z : Files) (name : List ℕ) → KeepsOthers x y name → KeepsOthers y z name → KeepsOthers x z name
others_then x y z name one two other ne = two other ne ∙ one other ne

pub all_then : (x y z : Files) → KeepsAll x y → KeepsAll y z → KeepsAll x z
all_then x y z one two name = two name ∙ one name

-- a file whose bytes are known grows by the piece
pub appended : (old new : Files) (name bytes piece : List ℕ) → old name ≡ Some bytes → AppendsTo old new name piece → new name ≡ Some (bytes ++ piece)
appended old new name bytes piece held appends =
    let was : Some bytes ≡ Some appends.0 = sym held ∙ appends.1 in
    let same : appends.0 ≡ bytes = cc in
    appends.2 ∙ ap (λ xs. Some (xs ++ piece)) same

-- or by a first part of it
pub appended_part : (old new : Files) (name bytes piece : List ℕ) → old name ≡ Some bytes → AppendsPartTo old new name piece → (kept : ℕ) × (kept ≤ length piece) × (new name ≡ Some (bytes ++ take kept piece))
appended_part old new name bytes piece held appends = appends.there bytes held

-- ---- what holds on success or failure

pub on_err : {T E P : Type 0} (result : Result T E) → P → OnErr result P
on_err (Ok x) p = tt
on_err (Err e) p = p

pub on_ok_both : {T E P Q R : Type 0} (result : Result T E) → OnOk result P → OnOk result Q → (P → Q → R) → OnOk result R
on_ok_both (Ok x) p q f = f p q
on_ok_both (Err e) p q f = tt
