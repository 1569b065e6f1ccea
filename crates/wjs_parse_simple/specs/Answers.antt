-- What each reader of statements answers: the tree that it reads, and that no other is read there.
use Rattle.std.specs.Prelude.{◌≡◌, ℕ, ◌+◌, ◌<◌, ◌≤◌, List, length, Option, Some, None}
use Rattle.std.specs.declared.result.Result.{Result}
use Rattle.std.specs.declared.result.Result.TheVariants.{Ok, Err}
use Rattle.wjs_base.specs.declared.ids.TextId.{TextId}
use Rattle.wjs_base.specs.declared.ids.OutOfMemory.{OutOfMemory}
use Rattle.wjs_base.specs.declared.ids.NodeId.{NodeId}
use Rattle.wjs_tree.specs.declared.tokens.Tok.{Tok}
use Rattle.wjs_tree.specs.declared.tokens.Token.TheVariants as tokens
use Rattle.wjs_tree.specs.declared.node.Node.{Node}
use Rattle.wjs_tree.specs.declared.node.End.{End}
use Rattle.wjs_tree.specs.Trees.{Expr, Optional, Stmt}
use Rattle.wjs_tree.specs.Formed.{is_open_if}
use Rattle.wjs_tree.specs.Children.{OptionBelow}
use Rattle.wjs_tree.specs.Ends.{token_at, HasToken, IsJoined}
use Rattle.wjs_tree.specs.Shows.{Shows, OptionalShows, StmtShows}
use Rattle.wjs_parse_simple.specs.declared.kind.Kind.{Kind}
use Rattle.wjs_parse_simple.specs.declared.parts.Piece.{Piece}
use Rattle.wjs_parse_simple.specs.declared.parts.Spot.{Spot}
use Rattle.wjs_parse_simple.specs.declared.parts.Valued.{Valued}
use Rattle.wjs_parse_simple.specs.declared.parts.Maybe.{Maybe}
use Rattle.wjs_parse_simple.specs.Kinds.{kind_of}
use Rattle.wjs_parse_simple.specs.Readings.{StmtReading, Stops, ValueForm}

-- the kind of statement that begins at a place
abbrev pub KindIs : List Tok → ℕ → Kind → Type 0
KindIs toks i kind = kind_of (token_at toks i) (token_at toks (i + 1)) ≡ kind

-- the expression of a form, and that no other has it
pub record FindsExpr (Form : Expr → ℕ → Type 0) (ns : List Node) (p : Spot) : Type 0 where
  pub tree : Expr
  pub used : List ℕ
  pub shows : Shows ns tree p.node used
  pub form : Form tree p.next
  pub only : (u : Expr) (m : ℕ) → Form u m → (u ≡ tree) × (m ≡ p.next)

abbrev pub ExprAnswers : (Expr → ℕ → Type 0) → List Node → Result (Option Spot) OutOfMemory → Type 0
ExprAnswers Form ns (Ok (Some p)) = FindsExpr Form ns p
ExprAnswers Form ns (Ok None) = (u : Expr) (m : ℕ) → Form u m → ⊥
ExprAnswers Form ns (Err e) = Unit {0}

-- the same of an expression or nothing
pub record FindsMaybe (Form : Optional → ℕ → Type 0) (ns : List Node) (p : Maybe) : Type 0 where
  pub tree : Optional
  pub used : List ℕ
  pub shows : OptionalShows ns tree p.node used
  pub form : Form tree p.next
  pub only : (u : Optional) (m : ℕ) → Form u m → (u ≡ tree) × (m ≡ p.next)

abbrev pub MaybeAnswers : (Optional → ℕ → Type 0) → List Node → Result (Option Maybe) OutOfMemory → Type 0
MaybeAnswers Form ns (Ok (Some p)) = FindsMaybe Form ns p
MaybeAnswers Form ns (Ok None) = (u : Optional) (m : ℕ) → Form u m → ⊥
MaybeAnswers Form ns (Err e) = Unit {0}

-- the expression and the end of its statement, which are the only ones
pub record FindsValue (toks : List Tok) (room i : ℕ) (ns : List Node) (p : Valued) : Type 0 where
  pub tree : Expr
  pub used : List ℕ
  pub shows : Shows ns tree p.node used
  pub form : ValueForm toks room i tree p.end p.next
  pub only : (u : Expr) (end : End) (m : ℕ) → ValueForm toks room i u end m → (u ≡ tree) × (end ≡ p.end) × (m ≡ p.next)

abbrev pub ValueAnswers : List Tok → ℕ → ℕ → List Node → Result (Option Valued) OutOfMemory → Type 0
ValueAnswers toks room i ns (Ok (Some p)) = FindsValue toks room i ns p
ValueAnswers toks room i ns (Ok None) = (u : Expr) (end : End) (m : ℕ) → ValueForm toks room i u end m → ⊥
ValueAnswers toks room i ns (Err e) = Unit {0}

-- the statement, and no other is read unless it could be longer
pub record FindsStmt (toks : List Tok) (room i : ℕ) (ns : List Node) (p : Piece) : Type 0 where
  pub stmt : Stmt
  pub used : List ℕ
  pub shows : StmtShows ns stmt p.node used
  pub is_open : p.is_open ≡ is_open_if stmt
  pub reading : StmtReading toks room i stmt p.next
  pub only : (u : Stmt) (m : ℕ) → StmtReading toks room i u m → Stops toks m u → (u ≡ stmt) × (m ≡ p.next)

abbrev pub StmtAnswers : List Tok → ℕ → ℕ → List Node → Result (Option Piece) OutOfMemory → Type 0
StmtAnswers toks room i ns (Ok (Some p)) = FindsStmt toks room i ns p
StmtAnswers toks room i ns (Ok None) = (u : Stmt) (m : ℕ) → StmtReading toks room i u m → Stops toks m u → ⊥
StmtAnswers toks room i ns (Err e) = Unit {0}

-- where a part ends, and that its node is there
abbrev pub EndsBy : List Tok → ℕ → List Node → NodeId → ℕ → Type 0
EndsBy toks i ns node next = (i < next) × (next ≤ length toks) × (node.0 < length ns)

abbrev pub PieceEnds : List Tok → ℕ → List Node → Result (Option Piece) OutOfMemory → Type 0
PieceEnds toks i ns (Ok (Some p)) = EndsBy toks i ns p.node p.next
PieceEnds toks i ns _ = Unit {0}

abbrev pub SpotEnds : List Tok → ℕ → List Node → Result (Option Spot) OutOfMemory → Type 0
SpotEnds toks i ns (Ok (Some p)) = EndsBy toks i ns p.node p.next
SpotEnds toks i ns _ = Unit {0}

abbrev pub ValuedEnds : List Tok → ℕ → List Node → Result (Option Valued) OutOfMemory → Type 0
ValuedEnds toks i ns (Ok (Some p)) = EndsBy toks i ns p.node p.next
ValuedEnds toks i ns _ = Unit {0}

abbrev pub MaybeEnds : List Tok → ℕ → List Node → Result (Option Maybe) OutOfMemory → Type 0
MaybeEnds toks i ns (Ok (Some p)) = (i ≤ p.next) × (p.next ≤ length toks) × OptionBelow (length ns) p.node
MaybeEnds toks i ns _ = Unit {0}

-- the label at a place, on the line of the key before it
abbrev pub LabelAnswers : List Tok → ℕ → Option TextId → Type 0
LabelAnswers toks i (Some x) = HasToken toks i (tokens.Word x) × IsJoined toks i
LabelAnswers toks i None = (x : TextId) → HasToken toks i (tokens.Word x) → IsJoined toks i → ⊥

-- the place behind a label, or behind none
abbrev pub behind_label : Option TextId → ℕ → ℕ
behind_label (Some x) i = i + 1
behind_label None i = i
