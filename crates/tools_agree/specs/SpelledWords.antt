-- Words of edges are read back.
-- Source: own.
use Rattle.std.specs.{Prelude.{◌≡◌, List, Some, codes}, List.join_by}
use Rattle.relax_edges.specs.{declared.edge.Edge.Edge, WordParts.word_of}
use Rattle.edges_from_text.specs.Spelled.{text_edges}

-- the words of edges, with a blank between each two, are read as these edges
abbrev pub WordsReadBack : Type 0
WordsReadBack = (edges : List Edge) → text_edges (join_by word_of (codes " ") edges) ≡ Some edges
