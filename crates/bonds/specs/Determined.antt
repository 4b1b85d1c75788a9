-- How tight the promises are: for one input they allow one table.
use Rattle.std.specs.Prelude.{ℕ, ◌*◌, ◌/◌, ◌%◌, ◌<◌, ◌≡◌, Bool, List, get_or, ℤ, Float}
use Rattle.std.proofs.Common.{sym, ◌∙◌, div-add-mod', div-lt_iff_lt-mul, mod-lt, arith, ext_get_or}
use Rattle.lemmas.specs.Cells.{some_group}
use Rattle.paper.specs.declared.Group.{Group}
use Rattle.paper.specs.declared.Sampler.{Sampler}
use Rattle.paper.specs.declared.BondKind.{BondKind}
use Rattle.paper.specs.Site.Bonds.{jorg_holds, kind_of, blue_holds, grey_holds}
use Rattle.paper.specs.Component.Marks.{Marks}
use Rattle.columns.specs.Column.{shown}
use Rattle.bonds.specs.Table.{CmrOut, both_acting, jorg_at, blue_at}

pub marks_same : {n d : ℕ} {f : ℕ → ℕ → Bool} {xs ys : List ℕ} → Marks n d f xs → Marks n d f ys → xs ≡ ys
marks_same {n} {d} {f} {xs} {ys} a b = ext_get_or 0 xs ys (a.long ∙ sym b.long) (λ k h. same k (omega (arith, a.long)))
  where
    same : (k : ℕ) → k < n * d → get_or xs k 0 ≡ get_or ys k 0
    same k h =
        let p : 0 < d = some_group n d k h in
        let i : k / d < n = (div-lt_iff_lt-mul p).1 h in
        let e : k % d < d = mod-lt k p in
        rw div-add-mod' at (a.at (k / d) (k % d) i e ∙ sym (b.at (k / d) (k % d) i e))

pub classify_determined : (a b : ℕ) (coupling : ℤ) (r r' : BondKind)
    → r ≡ kind_of coupling (shown a) (shown b) → r' ≡ kind_of coupling (shown a) (shown b) → r ≡ r'
classify_determined a b coupling r r' p q = p ∙ sym q

pub draw_blue_determined : (kind : BondKind) (s : Sampler) (cut : Float) (r r' : Bool) → r ≡ blue_holds kind s cut → r' ≡ blue_holds kind s cut → r ≡ r'
draw_blue_determined kind s cut r r' p q = p ∙ sym q

pub draw_grey_determined : (kind : BondKind) (s : Sampler) (cut : Float) (r r' : Bool) → r ≡ grey_holds kind s cut → r' ≡ grey_holds kind s cut → r ≡ r'
draw_grey_determined kind s cut r r' p q = p ∙ sym q

pub jorg_holds_determined : (j : ℤ) (m a b : ℕ) (s : Sampler) (cut : Float) (r r' : Bool)
    → r ≡ jorg_holds j m (shown a) (shown b) s cut → r' ≡ jorg_holds j m (shown a) (shown b) s cut → r ≡ r'
jorg_holds_determined j m a b s cut r r' p q = p ∙ sym q

module _ (n d : ℕ) (fwd acts : List ℕ) where
  pub active_bonds_determined : (xs ys : List ℕ) → Marks n d (both_acting d fwd acts) xs → Marks n d (both_acting d fwd acts) ys → xs ≡ ys
  active_bonds_determined xs ys = marks_same

module _ (n d : ℕ) (fwd : List ℕ) (couplings : List ℤ) (cuts : List Float) (g : Group) (s : Sampler) (acts cols : List ℕ) where
  abbrev jorg_bond : ℕ → ℕ → Bool
  jorg_bond = jorg_at d fwd couplings cuts g.len s acts cols

  pub jorg_bonds_determined : (xs ys : List ℕ) → Marks n d jorg_bond xs → Marks n d jorg_bond ys → xs ≡ ys
  jorg_bonds_determined xs ys = marks_same

-- both lent tables
pub record SameTables (bs gs bs' gs' : List ℕ) : Type 0 where
  pub blue : bs ≡ bs'
  pub grey : gs ≡ gs'

module _ (n d : ℕ) (fwd : List ℕ) (couplings : List ℤ) (cuts : List Float) (s : Sampler) (cols : List ℕ) where
  abbrev blue_bond : ℕ → ℕ → Bool
  blue_bond = blue_at d fwd couplings cuts s cols

  pub blue_bonds_determined : (xs ys : List ℕ) → Marks n d blue_bond xs → Marks n d blue_bond ys → xs ≡ ys
  blue_bonds_determined xs ys = marks_same

  pub cmr_bonds_determined : (bs gs bs' gs' : List ℕ)
      → CmrOut n d fwd couplings cuts s cols bs gs → CmrOut n d fwd couplings cuts s cols bs' gs' → SameTables bs gs bs' gs'
  cmr_bonds_determined bs gs bs' gs' p q = record { blue = marks_same p.blue q.blue; grey = marks_same p.grey q.grey }
