-- What the words of a command line ask for.
use Rattle.std.specs.Prelude.{ℕ, cond, List, [], ◌∷◌, codes}
use Rattle.std.specs.Str.{bytes_eq}
use Rattle.commandline.specs.declared.request.Request.{Request}
use Rattle.commandline.specs.declared.request.Request.TheVariants.{Plain, Help, Map, Demo, Unknown}

-- one word
unfoldable pub option : List ℕ → Request
option w =
    cond (bytes_eq w (codes "--help")) Help
    (cond (bytes_eq w (codes "--map")) Map
    (cond (bytes_eq w (codes "--demo")) Demo Unknown))

-- all of them
abbrev pub request_in : List (List ℕ) → Request
request_in [] = Plain
request_in (w ∷ []) = option w
request_in (w ∷ v ∷ ws) = Unknown
