-- Texts that the reader takes, and texts that it refuses.
use Rattle.std.specs.Prelude.{◌≡◌, ℕ, Bool, true, false, List, [], ◌∷◌, ◌++◌, map, is_some, codes}
use Rattle.markup.specs.Closing.{tree}

pub record Sample : Type 0 where
  pub text : List ℕ
  pub closes : Bool

abbrev sample : List ℕ → Bool → Sample
sample text closes = record { text = codes "<?xml version=\"1.0\"?>\n" ++ text; closes = closes }

abbrev pub samples : List Sample
samples =
    sample (codes "<a x=\"1\" y=\"1\">\n<b/>t<c></c></a>\n") true
    -- crossed, never closed, closed by another name, closed twice
    ∷ sample (codes "<a><b></a></b>") false
    ∷ sample (codes "<a><b></b>") false
    ∷ sample (codes "<a></ab>") false
    ∷ sample (codes "<a></a></a>") false
    -- two outermost elements, none, a text after it, a declaration in it
    ∷ sample (codes "<a></a><b></b>") false
    ∷ sample (codes "\n") false
    ∷ sample (codes "<a></a>x") false
    ∷ sample (codes "<a><?xml?></a>") false
    -- cut in a tag, a value without its quotes or with one, a key twice, an ampersand
    ∷ sample (codes "<a></a") false
    ∷ sample (codes "<a x=1></a>") false
    ∷ sample (codes "<a x=\"1></a>") false
    ∷ sample (codes "<a x=\"1\" x=\"2\"></a>") false
    ∷ sample (codes "<a>&</a>") false
    -- no declaration at the very start
    ∷ record { text = codes "<a></a>"; closes = false }
    ∷ []

-- every sample is taken or refused as the table says
abbrev pub SamplesStand : Type 0
SamplesStand = map (λ (s : Sample). record s { closes = is_some (tree s.text) }) samples ≡ samples
