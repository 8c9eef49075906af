-- Laws of the links of a model: what they are from one link on to the next, and the walks over them. The bound in their definition leaves none out: `links_more` and `links_none` do not know it.
use Prim.Native.Nat.{ℕ, zero, suc, ◌+◌, ◌-◌, ◌≤◌, ◌<◌}
use native.Mathlib.Omega.{arith}
use mathlib.Core.HLevel.{is_prop→PathP}
use Rattle.std.proofs.Math.Bridge.{le_prop}
use mathlib.Core.Path.{◌≡◌, refl, sym, ap, ◌∙◌, subst}
use mathlib.Core.Bool.{Bool, true, false, cond, ◌&&◌, ◌||◌}
use Rattle.std.specs.List.{list_any, list_all}
use mathlib.Core.List.{List, [], ◌∷◌, map}
use lib.Dec.{ltb}
use lib.ListN.{length}
use borrow.Author.Tests.{lt-ltb, le-ltb, ltb-true}
use Rattle.std.specs.Prelude.{Err, Ok}
use Rattle.lists.specs.Search.{any, all}
use Rattle.chain.specs.Checked.{Checked}
use Rattle.chain.specs.declared.Kinematics.{Kinematics}
use Rattle.chain.specs.Check.{first_refusal}
use Rattle.refusal.specs.declared.Refusal.{Refusal}
use Rattle.model.specs.declared.Link.{Link}
use Rattle.model.specs.declared.LinkIter.{LinkIter}
use Rattle.model.specs.Model.{link_at, links_within, links, links_of}
use Rattle.model.specs.ModelCheck.{link_check, link_checks}

-- ---- one link, by its offsets: that they are in order adds nothing
pub same_link : (l m : Link) → l.name ≡ m.name → l.carrier ≡ m.carrier → l.kind ≡ m.kind → l.end ≡ m.end → l ≡ m
same_link l m a b c d =
    λ i. record {
      name = a i;
      carrier = b i;
      kind = c i;
      end = d i;
      in_order = is_prop→PathP (λ j. (a j + 2 ≤ b j) × (b j + 2 ≤ c j) × (c j + 65 ≤ d j)) (λ j. hlevel le_prop) l.in_order m.in_order i;
    }

-- the library's tests of a list, and those of `lists`
pub any_is : {A : Type 0} (test : A → Bool) (l : List A) → list_any test l ≡ any test l
unfolding any
any_is test [] = refl
any_is test (x ∷ l) = ap (λ b. test x || b) (any_is test l)

pub all_is : {A : Type 0} (test : A → Bool) (l : List A) → list_all test l ≡ all test l
unfolding all
all_is test [] = refl
all_is test (x ∷ l) = ap (λ b. test x && b) (all_is test l)

-- ---- the links from one on
pub link_grows : (bytes : List ℕ) (at : ℕ) → at < (link_at bytes at).end
unfolding link_at
link_grows bytes at = omega arith

none_within : (n : ℕ) (bytes : List ℕ) (from to : ℕ) → to ≤ from → links_within n bytes from to ≡ []
unfolding links_within
none_within zero bytes from to h = refl
none_within (suc n) bytes from to h = rw (le-ltb from to h)

-- a larger bound gives no more links
enough : (n m : ℕ) (bytes : List ℕ) (from to : ℕ) → to ≤ from + n → to ≤ from + m → links_within n bytes from to ≡ links_within m bytes from to
unfolding links_within
enough zero m bytes from to p q = sym (none_within m bytes from to (omega arith))
enough (suc n) zero bytes from to p q = none_within (suc n) bytes from to (omega arith)
enough (suc n) (suc m) bytes from to p q =
    let g = link_grows bytes from in
    ap (λ (l : List Link). cond (ltb from to) (link_at bytes from ∷ l) []) (enough n m bytes (link_at bytes from).end to (omega arith) (omega arith))

pub links_none : (bytes : List ℕ) (from to : ℕ) → to ≤ from → links bytes from to ≡ []
unfolding links
links_none bytes from to h = none_within (to - from) bytes from to h

few_within : (n : ℕ) (bytes : List ℕ) (from to : ℕ) → length (links_within n bytes from to) ≤ n
unfolding links_within
few_within zero bytes from to = omega arith
few_within (suc n) bytes from to =
    elim (ltb from to) as (λ b. length (cond b (link_at bytes from ∷ links_within n bytes (link_at bytes from).end to) []) ≤ suc n) [
      | true ↦ let h = few_within n bytes (link_at bytes from).end to in omega (arith, h)
      | false ↦ omega arith
    ]

-- of the links of a model there are not more than bytes
pub links_few : (bytes : List ℕ) → length (links_of bytes) ≤ length bytes
unfolding links_of links
links_few bytes =
    let few = few_within (length bytes - 0) bytes 0 (length bytes) in
    omega (arith, few)

-- each has its name before the end
abbrev pub NamesBelow : ℕ → List Link → Type 0
NamesBelow n [] = Unit {0}
NamesBelow n (l ∷ ls) = (l.name < n) × NamesBelow n ls

name_kept : (b : Bool) (n : ℕ) (l : Link) (ls : List Link) → (b ≡ true → l.name < n) → NamesBelow n ls → NamesBelow n (cond b (l ∷ ls) [])
name_kept true n l ls h g = (h refl, g)
name_kept false n l ls h g = tt

names_within : (n : ℕ) (bytes : List ℕ) (from to : ℕ) → NamesBelow to (links_within n bytes from to)
unfolding links_within link_at
names_within zero bytes from to = tt
names_within (suc n) bytes from to =
    name_kept (ltb from to) to (link_at bytes from) (links_within n bytes (link_at bytes from).end to) (ltb-true from to)
    (names_within n bytes (link_at bytes from).end to)

pub names_in : (bytes : List ℕ) → NamesBelow (length bytes) (links_of bytes)
unfolding links_of links
names_in bytes = names_within (length bytes - 0) bytes 0 (length bytes)

pub links_more : (bytes : List ℕ) (from to : ℕ) → from < to → links bytes from to ≡ link_at bytes from ∷ links bytes (link_at bytes from).end to
unfolding links links_within
links_more bytes from to h =
    let g = link_grows bytes from in
    let e : to - from ≡ suc (to - from - 1) = omega arith in
    rw (e, lt-ltb from to h)
    (ap (λ (l : List Link). link_at bytes from ∷ l)
    (enough (to - from - 1) (to - (link_at bytes from).end) bytes (link_at bytes from).end to (omega arith) (omega arith)))

-- ---- a walk: from the link l at `at` on to the next
first_passed : (l : List Checked) → first_refusal ((Ok tt) ∷ l) ≡ first_refusal l
first_passed [] = refl
first_passed (c ∷ l) = refl

first_refused : (r : Refusal) (l : List Checked) → first_refusal (Err r ∷ l) ≡ Err r
first_refused r [] = refl
first_refused r (c ∷ l) = refl

module _ (f : Link → Checked) {ls later : List Link} {l : Link} (this : ls ≡ l ∷ later) where
  pub fields_passed : f l ≡ Ok tt → first_refusal (map f ls) ≡ first_refusal (map f later)
  fields_passed e =
      ap (λ (x : List Link). first_refusal (map f x)) this
      ∙ (ap (λ (c : Checked). first_refusal (c ∷ map f later)) e
      ∙ first_passed (map f later))

  pub fields_refused : {r : Refusal} → f l ≡ Err r → first_refusal (map f ls) ≡ Err r
  fields_refused {r} e =
      ap (λ (x : List Link). first_refusal (map f x)) this
      ∙ (ap (λ (c : Checked). first_refusal (c ∷ map f later)) e
      ∙ first_refused r (map f later))

module _ (bytes : List ℕ) (at to : ℕ) (l : Link) (within : at < to) (this : l ≡ link_at bytes at) where
  pub next : links bytes at to ≡ l ∷ links bytes l.end to
  next = rw this (links_more bytes at to within)

-- the checks of links, of which the first has the index i
module _ (k : Kinematics) (bytes : List ℕ) {ls later : List Link} {l : Link} (this : ls ≡ l ∷ later) (i : ℕ) where
  pub checks_passed : link_check k bytes l i ≡ Ok tt → first_refusal (link_checks k bytes i ls) ≡ first_refusal (link_checks k bytes (i + 1) later)
  unfolding link_checks
  checks_passed e =
      ap (λ (x : List Link). first_refusal (link_checks k bytes i x)) this
      ∙ (ap (λ (c : Checked). first_refusal (c ∷ link_checks k bytes (i + 1) later)) e
      ∙ first_passed (link_checks k bytes (i + 1) later))

  pub checks_refused : {r : Refusal} → link_check k bytes l i ≡ Err r → first_refusal (link_checks k bytes i ls) ≡ Err r
  unfolding link_checks
  checks_refused {r} e =
      ap (λ (x : List Link). first_refusal (link_checks k bytes i x)) this
      ∙ (ap (λ (c : Checked). first_refusal (c ∷ link_checks k bytes (i + 1) later)) e
      ∙ first_refused r (link_checks k bytes (i + 1) later))

pub first_name : {n : ℕ} {ls later : List Link} {l : Link} → ls ≡ l ∷ later → NamesBelow n ls → (l.name < n) × NamesBelow n later
first_name {n} e h = subst (NamesBelow n) e h

pub checks_end : (k : Kinematics) (bytes : List ℕ) (i : ℕ) {ls : List Link} → ls ≡ [] → first_refusal (link_checks k bytes i ls) ≡ Ok tt
unfolding link_checks
checks_end k bytes i e = rw e

-- what an iterator has left
abbrev pub left : LinkIter → List Link
left s = links s.bytes.now s.at s.to
