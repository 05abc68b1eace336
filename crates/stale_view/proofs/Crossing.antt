-- Publishers and viewers may go to other threads, whatever pair they are of.
use denote.RattleType.{RattleType}
use denote.Builtin.{unit}
use denote.Param.Send.{IsSend, IsSync, sendable, view_send, recorded_send, recorded_sync, struct_send, struct_sync}
use denote.Struct.Declared as declared
use Rattle.std.proofs.Crossing.{Arc-send, Vec-send, Vec-sync, frees, send, sync}
use Rattle.std.specs.contracts.alloc.Global as global
use Rattle.std.specs.contracts.collections.LinkedList as lists
use Rattle.std.specs.contracts.impls.GlobalAllocator.TheImpl.{ghosts}
use Rattle.logbook.proofs.word.Word.TheSendSync as word
use Rattle.core.proofs.option.Option.TheSendSync as option
use Rattle.left_right.specs.contracts.reader.Reader as readers
use Rattle.left_right.proofs.reader.Reader.TheSendSync as reader
use Rattle.left_right.proofs.writer.Writer.TheSendSync as writer
use Rattle.crossbeam_queue.proofs.array_queue.Slotted.TheSendSync as queue
use Rattle.crossbeam_queue.specs.contracts.array_queue.TurnsTableRuleOptionDoingUnit.TheImpl as turning
use Rattle.crossbeam_queue.specs.contracts.protocol.Free as free
use Rattle.crossbeam_queue.specs.contracts.protocol.FreeProtocolUnit.TheImpl as freeing
use Rattle.cat_model.specs.contracts.command.Command as command
use Rattle.stale_view.specs.declared.names.PairName.{Ghosts}
use Rattle.stale_view.specs.contracts.history.Front as front
use Rattle.stale_view.specs.contracts.publisher.Publisher as publisher
use Rattle.stale_view.specs.contracts.publisher.Publisher.TheInside as inside
use Rattle.stale_view.specs.contracts.readers.Readers as pool
use Rattle.stale_view.specs.contracts.readers.Slot as slot
use Rattle.stale_view.specs.contracts.rule.Rising as rising
use Rattle.stale_view.specs.contracts.rule.RisingProtocolSideRead.TheImpl as rule
use Rattle.stale_view.specs.contracts.side.Op as op
use Rattle.stale_view.specs.contracts.side.Side as side
use Rattle.stale_view.specs.contracts.side.SideAbsorbOp.TheImpl as absorbs
use Rattle.stale_view.specs.contracts.viewer.Viewer as viewer
use Rattle.stale_view.specs.contracts.viewer.Viewer.TheInside as held

module _ (J : RattleType) (P : Ghosts J.Denot) where
  pub publisher_sends : (R : RattleType) → IsSend R → IsSend side.the_row → IsSync side.the_row → IsSend op.the_row → IsSend front.the_row → IsSend (publisher.the_row J R P)
  publisher_sends R r s y o f =
      let w = writer.the_field_send side.the_row op.the_row (lists.the_row command.the_row global.the_row ghosts) (rising.the_row J) global.the_row side.the_row absorbs.ghosts (rule.ghosts J P rule.no_dict) ghosts s o send y sync frees in
      let i : IsSend (inside.the_row J R P) = recorded_send (inside.the_field J R P).row _ _ (inside.the_type J R P).to_one (struct_send (declared.shape (inside.the_type J R P))
      (w, (search sendable, (f, (search (sendable, word.the_send) depth 24, (r, tt)))))) in
      view_send _ _ _ _ _ i

  reader_sends : IsSync side.the_row → IsSend (readers.the_row side.the_row (lists.the_row command.the_row global.the_row ghosts) (rising.the_row J) global.the_row (rule.ghosts J P rule.no_dict) ghosts)
  reader_sends y = reader.the_send side.the_row (lists.the_row command.the_row global.the_row ghosts) (rising.the_row J) global.the_row (rule.ghosts J P rule.no_dict) ghosts send y sync frees

  slot_sends : IsSync side.the_row → IsSend (slot.the_row J P)
  slot_sends y = recorded_send (slot.the_field J P).row _ _ (slot.the_type J P).to_one (struct_send (declared.shape (slot.the_type J P)) (queue.the_field_send _ _ _ _ (turning.ghosts (readers.the_row side.the_row (lists.the_row command.the_row global.the_row ghosts) (rising.the_row J) global.the_row (rule.ghosts J P rule.no_dict) ghosts) unit free.the_row (freeing.ghosts (readers.the_row side.the_row (lists.the_row command.the_row global.the_row ghosts) (rising.the_row J) global.the_row (rule.ghosts J P rule.no_dict) ghosts)) turning.no_dict) ghosts (option.the_send _ (reader_sends y)) send frees, tt))

  slot_shares : IsSync side.the_row → IsSync (slot.the_row J P)
  slot_shares y = recorded_sync (slot.the_field J P).row _ _ (slot.the_type J P).to_one (struct_sync (declared.shape (slot.the_type J P)) (queue.the_field_sync _ _ _ _ (turning.ghosts (readers.the_row side.the_row (lists.the_row command.the_row global.the_row ghosts) (rising.the_row J) global.the_row (rule.ghosts J P rule.no_dict) ghosts) unit free.the_row (freeing.ghosts (readers.the_row side.the_row (lists.the_row command.the_row global.the_row ghosts) (rising.the_row J) global.the_row (rule.ghosts J P rule.no_dict) ghosts)) turning.no_dict) ghosts (option.the_send _ (reader_sends y)) send sync frees, tt))

  pool_sends : IsSync side.the_row → IsSend front.the_row → IsSend (pool.the_row J P)
  pool_sends y f = recorded_send (pool.the_field J P).row _ _ (pool.the_type J P).to_one (struct_send (declared.shape (pool.the_type J P)) (Vec-send _ (slot_sends y), (f, tt)))

  pool_shares : IsSync side.the_row → IsSync front.the_row → IsSync (pool.the_row J P)
  pool_shares y f = recorded_sync (pool.the_field J P).row _ _ (pool.the_type J P).to_one (struct_sync (declared.shape (pool.the_type J P)) (Vec-sync _ (slot_shares y), (f, tt)))

  pub viewer_sends : IsSync side.the_row → IsSend front.the_row → IsSync front.the_row → IsSend (viewer.the_row J P)
  viewer_sends y f g =
      let i : IsSend (held.the_row J P) = recorded_send (held.the_field J P).row _ _ (held.the_type J P).to_one (struct_send (declared.shape (held.the_type J P)) (Arc-send _ (pool_sends y f) (pool_shares y g), (f, tt))) in
      view_send _ _ _ _ _ i
