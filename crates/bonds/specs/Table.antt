-- What the tables of holding bonds are made of and what they say: bond (i, e) has the entry i * d + e. A column is a site's group as one byte.
use Rattle.std.specs.Prelude.{ℕ, ◌+◌, ◌*◌, ◌≤◌, ◌<◌, ◌≡◌, Bool, ◌&&◌, List, eqb, length, get_or, ℤ, pos, Float}
use Rattle.std.specs.Float.{nan}
use Rattle.paper.specs.declared.Sampler.{Sampler}
use Rattle.paper.specs.declared.BondKind.{BondKind}
use Rattle.paper.specs.Site.Bonds.{jorg_holds, kind_of, blue_holds, grey_holds}
use Rattle.paper.specs.Component.Marks.{Marks}
use Rattle.paper.specs.Refusal.Rules.{SmallCouplings}
use Rattle.columns.specs.Column.{shown}

-- ---- what is lent

-- each bond of n sites and d directions leads to a site
pub record Forward (n d : ℕ) (fwd : List ℕ) : Type 0 where
  pub sites : n ≤ 4096
  pub directions : d ≤ 4
  pub long : length fwd ≡ n * d
  pub inside : (i e : ℕ) → i < n → e < d → get_or fwd (i * d + e) 0 < n

-- each bond has a coupling and a cut
pub record Coupled (n d : ℕ) (couplings : List ℤ) (cuts : List Float) : Type 0 where
  pub couplings_long : length couplings ≡ n * d
  pub cuts_long : length cuts ≡ n * d
  pub small : SmallCouplings couplings

pub record ActiveIn (n d : ℕ) (fwd acts holds : List ℕ) : Type 0 where
  pub forward : Forward n d fwd
  pub acts_long : length acts ≡ n
  pub holds_long : length holds ≡ n * d

-- a group of m systems
pub record JorgIn (n d : ℕ) (fwd : List ℕ) (couplings : List ℤ) (cuts : List Float) (m : ℕ) (acts cols holds : List ℕ) : Type 0 where
  pub active : ActiveIn n d fwd acts holds
  pub coupled : Coupled n d couplings cuts
  pub size_low : 2 ≤ m
  pub size_high : m ≤ 8
  pub cols_long : length cols ≡ n

pub record BlueIn (n d : ℕ) (fwd : List ℕ) (couplings : List ℤ) (cuts : List Float) (cols blue : List ℕ) : Type 0 where
  pub forward : Forward n d fwd
  pub coupled : Coupled n d couplings cuts
  pub cols_long : length cols ≡ n
  pub blue_long : length blue ≡ n * d

pub record CmrIn (n d : ℕ) (fwd : List ℕ) (couplings : List ℤ) (cuts : List Float) (cols blue grey : List ℕ) : Type 0 where
  pub forward : Forward n d fwd
  pub coupled : Coupled n d couplings cuts
  pub cols_long : length cols ≡ n
  pub blue_long : length blue ≡ n * d
  pub grey_long : length grey ≡ n * d

-- the site i acts: its byte is 1
pub record Acts (acts : List ℕ) (i : ℕ) : Type 0 where
  pub below : i < length acts
  pub does : get_or acts i 0 ≡ 1

-- ---- what is judged

-- a byte 1 acts
abbrev pub acting : List ℕ → ℕ → Bool
acting acts i = eqb (get_or acts i 0) 1

abbrev pub both_acting : ℕ → List ℕ → List ℕ → ℕ → ℕ → Bool
both_acting d fwd acts i e = acting acts i && acting acts (get_or fwd (i * d + e) 0)

-- Jörg: both act, and the bond is drawn
abbrev pub jorg_at : ℕ → List ℕ → List ℤ → List Float → ℕ → Sampler → List ℕ → List ℕ → ℕ → ℕ → Bool
jorg_at d fwd couplings cuts m s acts cols i e =
    both_acting d fwd acts i e
    && jorg_holds (get_or couplings (i * d + e) (pos 0)) m (shown (get_or cols i 0)) (shown (get_or cols (get_or fwd (i * d + e) 0) 0)) s (get_or cuts (i * d + e) nan)

-- CMR: the kind of the bond (i, e), and whether it is drawn blue, and blue or red
abbrev pub kind_at : ℕ → List ℕ → List ℤ → List ℕ → ℕ → ℕ → BondKind
kind_at d fwd couplings cols i e =
    kind_of (get_or couplings (i * d + e) (pos 0)) (shown (get_or cols i 0)) (shown (get_or cols (get_or fwd (i * d + e) 0) 0))

abbrev pub blue_at : ℕ → List ℕ → List ℤ → List Float → Sampler → List ℕ → ℕ → ℕ → Bool
blue_at d fwd couplings cuts s cols i e = blue_holds (kind_at d fwd couplings cols i e) s (get_or cuts (i * d + e) nan)

abbrev pub grey_at : ℕ → List ℕ → List ℤ → List Float → Sampler → List ℕ → ℕ → ℕ → Bool
grey_at d fwd couplings cuts s cols i e = grey_holds (kind_at d fwd couplings cols i e) s (get_or cuts (i * d + e) nan)

pub record CmrOut (n d : ℕ) (fwd : List ℕ) (couplings : List ℤ) (cuts : List Float) (s : Sampler) (cols bs gs : List ℕ) : Type 0 where
  pub blue : Marks n d (blue_at d fwd couplings cuts s cols) bs
  pub grey : Marks n d (grey_at d fwd couplings cuts s cols) gs
