-- Laws of the tests `&&`, `||` and `cond`.
use mathlib.Core.Path.{◌≡◌, refl, sym}
use mathlib.Core.Bool.{Bool, true, false, ◌&&◌, ◌||◌, not, cond, false≢true}
use mathlib.Core.Logic.{◌⊎◌, inl, inr}

-- true and false differ, so anything follows
pub no {ℓ} : {A : Type ℓ} → false ≡ true → A
no e = absurd (false≢true e)

pub cases : (b : Bool) → (b ≡ true) ⊎ (b ≡ false)
cases true = inl refl
cases false = inr refl

pub both : (a b : Bool) → (a && b) ≡ true → (a ≡ true) × (b ≡ true)
both true b e = (refl, e)
both false b e = no e

pub join : (a b : Bool) → a ≡ true → b ≡ true → (a && b) ≡ true
join a b e f = rw (e, f)

pub either : (a b : Bool) → (a || b) ≡ true → (a ≡ true) ⊎ (b ≡ true)
either true b e = inl refl
either false b e = inr e

pub neither : (a b : Bool) → (a || b) ≡ false → (a ≡ false) × (b ≡ false)
neither true b e = no (sym e)
neither false b e = (refl, e)

pub or_left : (a b : Bool) → a ≡ true → (a || b) ≡ true
or_left true b e = refl
or_left false b e = no e

pub or_right : (a b : Bool) → b ≡ true → (a || b) ≡ true
or_right true b e = refl
or_right false b e = e

-- a property holds of `cond` if it holds of each branch under its test
pub cond_ind {ℓ κ} : {X : Type ℓ} (P : X → Type κ) (b : Bool) {x y : X} → (b ≡ true → P x) → (b ≡ false → P y) → P (cond b x y)
cond_ind P true f g = f refl
cond_ind P false f g = g refl

pub unless-ind {ℓ κ} : {X : Type ℓ} (P : X → Type κ) (b : Bool) {x y : X} → (b ≡ false → P x) → (b ≡ true → P y) → P (cond (not b) x y)
unless-ind P true f g = g refl
unless-ind P false f g = f refl

-- a function of `cond`, branch by branch
pub cond_map {ℓ κ} : {X : Type ℓ} {Y : Type κ} (f : X → Y) (b : Bool) {x y : X} {x' y' : Y} → (b ≡ true → f x ≡ x') → (b ≡ false → f y ≡ y') → f (cond b x y) ≡ cond b x' y'
cond_map f true p q = p refl
cond_map f false p q = q refl
