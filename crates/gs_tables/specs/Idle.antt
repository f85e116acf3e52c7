-- The rows of threads to which nothing came: but for class and tid all are the same.
use Rattle.std.specs.Prelude.{Some, List, ℕ, codes}
use Rattle.gs_layout.specs.declared.facts.Class.{Class}
use Rattle.gs_layout.specs.declared.facts.Class.TheVariants.{Zero, One}
use Rattle.gs_lines.specs.Columns.{class_word, column}

-- a class at the right end of its column
abbrev pub class_column : Class → List ℕ
class_column k = column 5 (class_word (Some k))

-- the object of such a thread, up to its tid
abbrev pub front_json : Class → List ℕ
front_json Zero = codes "{\"class\":0,\"migrated\":0,\"preempted\":0,\"ran\":{\"entries\":0,\"ticks\":0},\"stays\":0,\"tid\":"
front_json One = codes "{\"class\":1,\"migrated\":0,\"preempted\":0,\"ran\":{\"entries\":0,\"ticks\":0},\"stays\":0,\"tid\":"
