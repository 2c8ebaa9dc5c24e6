-- A small file, and what is read of it.
use Rattle.std.specs.Prelude.{◌≡◌, ℕ, List, [], ◌∷◌, ◌++◌, Some, None, Option, codes}
use Rattle.protocol.specs.declared.happening.HappeningKind.TheVariants.{Sent, Crashed}
use Rattle.protocol.specs.Beats.{edge}
use Rattle.graphml.specs.Reading.{Item, happened, joined, items_read, parties_read}

-- a file with its attributes in another order, and with what no reader of a run can read
abbrev pub file_sample : List ℕ
file_sample =
    codes "<?xml version=\"1.0\"?><graphml xmlns=\"http://graphml.graphdrawing.org/xmlns\"><graph edgedefault=\"directed\" id=\"run\">"
    ++ codes "<node id=\"p0\"><graph edgedefault=\"directed\" id=\"p0:\"><node id=\"h0\"><data key=\"k\">sent</data><data key=\"t\">7</data></node></graph></node>"
    -- no tick; two kinds; a graph of another id; a happening outside the graph
    ++ codes "<node id=\"p1\"><graph id=\"p1:\" edgedefault=\"directed\"><node id=\"h1\"><data key=\"k\">sent</data></node></graph></node>"
    ++ codes "<node id=\"p2\"><graph id=\"p2:\" edgedefault=\"directed\"><node id=\"h2\"><data key=\"t\">1</data><data key=\"k\">sent</data><data key=\"k\">lost</data></node></graph></node>"
    ++ codes "<node id=\"p3\"><graph id=\"p2:\" edgedefault=\"directed\"/></node><node id=\"p4\"><node id=\"h3\"/></node>"
    -- an edge within a party's graph, an edge, an edge from nowhere, and one from a place that no
    -- number is written as
    ++ codes "<node id=\"p12\"><graph id=\"p12:\" edgedefault=\"directed\"><edge source=\"h0\" target=\"h4\"/><node id=\"h5\"><data key=\"t\">10</data><data key=\"k\">crashed</data></node></graph></node>"
    ++ codes "<edge target=\"h7\" source=\"h0\"></edge><edge source=\"h\" target=\"h1\"/><edge source=\"h01\" target=\"h1\"/></graph></graphml>"

abbrev pub items_sample : List (Option Item)
items_sample =
    Some (happened 0 (record { place = 0; tick = 7; kind = Sent }))
    ∷ None ∷ None ∷ None ∷ None
    ∷ None ∷ Some (happened 12 (record { place = 5; tick = 10; kind = Crashed }))
    ∷ Some (joined (edge 0 7)) ∷ None ∷ None ∷ []

-- the file is read as it stands there
pub record SamplesStand : Type 0 where
  pub items : items_read file_sample ≡ items_sample
  pub parties : parties_read file_sample ≡ Some 0 ∷ Some 1 ∷ Some 2 ∷ None ∷ None ∷ Some 12 ∷ []
