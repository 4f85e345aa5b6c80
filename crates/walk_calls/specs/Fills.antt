-- What the loops of a call of the walk promise to each other: the elements that a call hands out are put by several loops, one behind the other.
use Rattle.std.specs.Prelude.{ℕ, ◌≡◌, List, Bool, true, false, Result, Ok}
use Rattle.protobuf.specs.declared.refusal.Refusal.TheVariants.{Outside}
use Rattle.protobuf.specs.declared.column.Column as state
use Rattle.protobuf.specs.Column.{Column}
use Rattle.fields.specs.declared.part.Part.{Part}
use Rattle.wire.specs.declared.record.WireBlock.{WireBlock}
use Rattle.lookup.specs.Lookup.{is_record_inside}
use Rattle.columns.specs.declared.zip.RowColumns.{RowColumns}
use Rattle.elements.specs.declared.element.Element.{Element}
use Rattle.elements.specs.declared.element.NodeInfo.TheVariants as node
use Rattle.elements.specs.Element.{item_of}
use Rattle.kinds.specs.declared.state.DenseColumns.{DenseColumns}
use Rattle.kinds.specs.declared.state.Loose.{Loose}
use Rattle.kinds.specs.Loose.{viewed_as}
use Rattle.walk.specs.declared.state.DenseNodeIter.{DenseNodeIter}
use Rattle.walk.specs.declared.state.BlockElementsIter.{BlockElementsIter}
use Rattle.walk.specs.declared.state.BlockElementsIter.TheVariants as walk
use Rattle.walk.specs.Said.{dense_element}
use Rattle.walk.specs.State.{state_inside}
use Rattle.walk.specs.Walk.{Found, part_of, elements_from}
use Rattle.answers.specs.declared.codes.Stop.{Stop}
use Rattle.answers.specs.declared.codes.Stop.TheVariants as stop
use Rattle.answers.specs.Words.{filled, filled_at}
use Rattle.layouts.specs.Element.{element_words}
use Rattle.calls.specs.declared.run.Run.{Run}
use Rattle.calls.specs.Items.{state_left, count_of, Filling, FillsUp}
use Rattle.walk_slots.specs.Slot.{walk_words, walk_at}
use Rattle.walk_calls.specs.Steps.{Put, found_by, put_words, walk_over}

-- a dense node as it is put, by the columns behind it
abbrev pub node_put : DenseNodeIter → state.Column → RowColumns → Put
node_put d tags rows = record { group = d.of.group; message = part_of d.message; element = dense_element rows tags node.Unread }

-- the same nodes at other columns
abbrev pub at_columns : DenseNodeIter → DenseColumns → DenseNodeIter
at_columns d next = record { of = d.of; message = d.message; columns = next }

-- a message as it is put: where its view keeps it; else the slice is as it was
abbrev pub PutWhere : List ℕ → Bool → Loose → ℕ → Part → List ℕ → ℕ → Bool → List ℕ → Type 0
PutWhere s full kind group message out at true after =
    (e : Element) × ((viewed_as full kind s message ≡ Ok (item_of s e)) × (after ≡ filled_at out at (element_words group message e)))
PutWhere s full kind group message out at false after = after ≡ out

pub record MessagePut (s : List ℕ) (full : Bool) (kind : Loose) (group : ℕ) (message : Part) (out : List ℕ) (at : ℕ) (put : Bool) (after : List ℕ) : Type 0 where
  pub by : PutWhere s full kind group message out at put after

module _ (s : List ℕ) (ahead : BlockElementsIter → Column Found) (most : ℕ) where
  -- n of the elements that w has ahead stand in `after`, from the start of `out` on, and next has the others ahead
  abbrev pub Fills : BlockElementsIter → List ℕ → ℕ → BlockElementsIter → List ℕ → Type 0
  Fills w out n next after = Filling (found_by s) put_words ahead 208 (ahead w) out most n next after

  -- as many as there is room for, behind the first n, with the state behind them in the slot
  pub record StateInto (n : ℕ) (w : BlockElementsIter) (slot out : List ℕ) (r : Result ℕ Stop) (left after : List ℕ) : Type 0 where
    pub run : Result (Run BlockElementsIter) Stop
    pub fills : FillsUp (found_by s) put_words ahead 208 most n w out run after
    pub put : left ≡ filled slot (walk_words (state_left walk.Ended run))
    pub back : walk_at left ≡ state_left walk.Ended run
    pub is : r ≡ count_of run

-- the same over every record in which the state is inside
pub record FillsInside (s : List ℕ) (most : ℕ) (w : BlockElementsIter) (out : List ℕ) (n : ℕ) (next : BlockElementsIter) (after : List ℕ) : Type 0 where
  pub by : (r : WireBlock) → is_record_inside s r ≡ true → state_inside s r w ≡ true → Fills s (elements_from s r) most w out n next after

-- a call that is refused with 14; but an ended walk stays ended
abbrev pub RefusedWhere : Bool → List ℕ → Stop → List ℕ → Type 0
RefusedWhere true slot why left = (why ≡ stop.Ended) × (left ≡ slot)
RefusedWhere false slot why left = (why ≡ stop.Refused Outside) × ((left ≡ filled slot (walk_words walk.Ended)) × (walk_at left ≡ walk.Ended))

pub record RefusedInto (slot : List ℕ) (why : Stop) (left : List ℕ) : Type 0 where
  pub by : RefusedWhere (walk_over (walk_at slot)) slot why left
