-- The frame program: what it writes for every text.
use Rattle.std.specs.Prelude.{ℕ, ◌+◌, ◌-◌, ◌*◌, ◌/◌, ◌%◌, ◌≤◌, ◌<◌, ◌≡◌, ◌⊎◌, cond, List, [], ◌∷◌, ◌++◌, map, eqb, ltb, length, get_or, drop, ℤ, pos, negsuc}
use Rattle.lemmas.specs.Cells.{table}
use Rattle.paper.specs.declared.Mode.TheVariants.{Perm}
use Rattle.paper.specs.declared.Form.TheVariants.{Sw}
use Rattle.paper.specs.Answer.Cases.{Answer, Answer.Refused}
use Rattle.paper.specs.Panel.Input.{Lattice, Call, Choices, Buffers}
use Rattle.paper.specs.Site.Bonds.{whole}
use Rattle.paper.specs.Refusal.Rule.{Rule, rule, Broken}
use Rattle.paper.specs.Refusal.Rules.{AllSystems, Spins, Inverse, Grouped, Chosen}
use Rattle.paper.specs.Refusal.Verdict.{Verdict}
use Rattle.paper.specs.Answer.Number as numbers
use Rattle.paper.specs.Answer.Move.{Answers, Accepted}

-- ---- lower-case hexadecimal, in the codes of the characters; 10 is the line feed
abbrev pub digit : ℕ → ℕ
digit x = cond (ltb x 10) (48 + x) (87 + x)

abbrev pub digit_value : ℕ → ℕ
digit_value a = cond (ltb a 58) (a - 48) (a - 87)

unfoldable pub hex : List ℕ → List ℕ
hex [] = []
hex (b ∷ bs) = digit (b / 16) ∷ digit (b % 16) ∷ hex bs

unfoldable pub unhex : List ℕ → List ℕ
unhex [] = []
unhex (a ∷ []) = []
unhex (a ∷ (b ∷ r)) = (16 * digit_value a + digit_value b) ∷ unhex r

unfoldable pub first_line : List ℕ → List ℕ
first_line [] = []
first_line (a ∷ r) = cond (eqb a 10) [] (a ∷ first_line r)

-- the text after the first line feed
unfoldable pub next : List ℕ → List ℕ
next [] = []
next (a ∷ r) = cond (eqb a 10) r (next r)

-- the bytes of the first line after its tag
abbrev pub bytes : List ℕ → List ℕ
bytes text = drop 1 (unhex (first_line text))

-- the text begins with a line of whole bytes, the tag first; and of m bytes after it
pub record Spelt (tag : ℕ) (text : List ℕ) : Type 0 where
  pub is : text ≡ hex (tag ∷ bytes text) ++ (10 ∷ next text)
  pub small : (k : ℕ) → k < length (bytes text) → get_or (bytes text) k 0 < 256

pub record Frame (tag m : ℕ) (text : List ℕ) : Type 0 where
  pub spelt : Spelt tag text
  pub long : length (bytes text) ≡ m

-- ---- what the five lines say
abbrev pub sizes_of : List ℕ → ℕ → ℕ
sizes_of text k = get_or (bytes text) k 0

abbrev pub signed : ℕ → ℤ
signed x = cond (ltb x 128) (pos x) (negsuc (255 - x))

-- numbers of two bytes, high first
unfoldable pub words : List ℕ → List ℕ
words [] = []
words (a ∷ []) = []
words (a ∷ (b ∷ r)) = (256 * a + b) ∷ words r

abbrev pub frame_lattice : List ℕ → List ℕ → Lattice
frame_lattice text bwd = record {
  n = 256 * sizes_of text 0 + sizes_of text 1;
  d = sizes_of text 2;
  s = sizes_of text 3;
  fwd = words (bytes (next (next text)));
  bwd = bwd;
  couplings = [];
}

abbrev pub group_bytes : List ℕ → List ℕ
group_bytes text = bytes (next (next (next text)))

abbrev pub frame_call : List ℕ → List ℕ → Call
frame_call text bwd = record {
  mode = Perm;
  form = Sw;
  lattice = frame_lattice text bwd;
  pins = table (frame_lattice text bwd).n (λ k. 0);
  group = record { len = length (group_bytes text); systems = table 8 (λ k. get_or (group_bytes text) k 0) };
  temperature = whole 1;
  cuts = [];
  reference = 0;
  seed = 0;
}

abbrev pub frame_choices : List ℕ → Choices
frame_choices text = record { choices = bytes (next (next (next (next text)))); greys = [] }

-- the program's own buffers, of 0 at first
abbrev pub frame_buffers : List ℕ → Buffers
frame_buffers text = record {
  spins = map signed (bytes (next text));
  labels = table (frame_lattice text []).n (λ k. 0);
  grey_labels = [];
  counts = table ((frame_lattice text []).n + 1) (λ k. 0);
  sizes = table 4 (λ k. 0);
  members = [];
  found = table 1 (λ k. 0);
  grey_found = [];
}

-- ---- refusals
pub record FrameSizes (t : Lattice) : Type 0 where
  pub n_low : 1 ≤ t.n
  pub n_high : t.n ≤ 256
  pub d_low : 1 ≤ t.d
  pub d_high : t.d ≤ 4
  pub s_low : 1 ≤ t.s
  pub s_high : t.s ≤ 8

-- there is a backward table
pub record HasBack (text : List ℕ) : Type 0 where
  pub bwd : List ℕ
  pub long : length bwd ≡ (frame_lattice text []).n * (frame_lattice text []).d
  pub inverse : Inverse (frame_lattice text []).n (frame_lattice text []).d (frame_lattice text []).fwd bwd

pub record GroupSize (m : ℕ) : Type 0 where
  pub low : 2 ≤ m
  pub high : m ≤ 8

abbrev pub frame_rules : List ℕ → List Rule
frame_rules text =
    rule 11 (Frame 0x10 4 text)
    ∷ rule 1 (FrameSizes (frame_lattice text []))
    ∷ rule 11 (Frame 0x11 ((frame_lattice text []).s * (frame_lattice text []).n) (next text))
    ∷ rule 11 (Frame 0x12 (2 * ((frame_lattice text []).n * (frame_lattice text []).d)) (next (next text)))
    ∷ rule 11 (Spelt 0x13 (next (next (next text))))
    ∷ rule 1 (GroupSize (length (group_bytes text)))
    ∷ rule 11 (Frame 0x14 ((frame_lattice text []).n * length (group_bytes text)) (next (next (next (next text)))))
    ∷ rule 11 (next (next (next (next (next text)))) ≡ [])
    ∷ rule 3 (Spins (frame_lattice text []).n (AllSystems (frame_lattice text []).s) (frame_buffers text).spins)
    ∷ rule 4 (HasBack text)
    ∷ rule 5 (Grouped (frame_lattice text []).s (frame_call text []).group)
    ∷ rule 9 (Chosen (frame_call text []) (frame_choices text))
    ∷ []

-- ---- what is written
unfoldable pub two_bytes : List ℕ → List ℕ
two_bytes [] = []
two_bytes (x ∷ r) = (x / 256) ∷ (x % 256) ∷ two_bytes r

abbrev pub spin_byte : ℤ → ℕ
spin_byte (pos x) = x
spin_byte (negsuc x) = 255 - x

abbrev pub line : ℕ → List ℕ → List ℕ
line tag bs = hex (tag ∷ bs) ++ (10 ∷ [])

abbrev pub result : Buffers → List ℕ
result b = line 0x20 (two_bytes b.labels) ++ (line 0x21 (two_bytes b.counts) ++ line 0x22 (map spin_byte b.spins))

-- 2f and two decimal digits
abbrev pub refusal : ℕ → List ℕ
refusal r = 50 ∷ 102 ∷ (48 + r / 10) ∷ (48 + r % 10) ∷ 10 ∷ []

pub record FrameRefuses (text out : List ℕ) : Type 0 where
  pub number : ℕ
  pub why : Broken (frame_rules text) (numbers.number (Refused number))
  pub written : out ≡ refusal (numbers.number (Refused number))

pub record FrameRuns (text out : List ℕ) : Type 0 where
  pub answer : Answer
  pub valid : Verdict (frame_rules text) (numbers.number answer)
  pub back : HasBack text
  pub after : Buffers
  pub accepted : Accepted answer
  pub answers : Answers (frame_call text back.bwd) (frame_choices text) (frame_buffers text) answer after
  pub written : out ≡ result after

abbrev pub FrameAnswers : List ℕ → List ℕ → Type 0
FrameAnswers text out = FrameRefuses text out ⊎ FrameRuns text out
