-- A cluster that serves may go to another thread where its servers may, and so may what shows viewers its log.
use denote.RattleType.{RattleType}
use denote.Param.Send.{IsSend, sendable, view_send, recorded_send, struct_send}
use denote.Struct.Declared as declared
use Rattle.outside.specs.declared.keeper.Keeper as keeping
use Rattle.cluster_interface.specs.declared.interface.ClusterInterface as interface
use Rattle.stale_view.specs.declared.names.PairName as naming
use Rattle.stale_view.specs.contracts.publisher.Publisher as publisher
use Rattle.http_front.specs.declared.cluster.ClusterSize as sizing
use Rattle.http_front.specs.contracts.cluster.ServingCluster as serving
use Rattle.http_front.specs.contracts.cluster.ServingCluster.TheInside as held
use Rattle.http_front.specs.contracts.views.ViewedCluster as viewed
use Rattle.http_front.specs.contracts.views.ViewedCluster.TheInside as inside

module _ (J S R K : RattleType) (Z : sizing.Ghosts J.Denot) (P : naming.Ghosts J.Denot) (C : interface.Ghosts S.Denot K.Denot) (D : keeping.Ghosts K.Denot) where
  pub serving_sends : IsSend S → IsSend (serving.the_row J S K Z C D)
  serving_sends s =
      let i : IsSend (held.the_row J S K Z C D) = recorded_send (held.the_field J S K Z C D).row _ _ (held.the_type J S K Z C D).to_one (struct_send (declared.shape (held.the_type J S K Z C D)) (s, (search sendable, (search sendable, tt)))) in
      view_send _ _ _ _ _ i

  pub viewed_sends : IsSend S → IsSend (publisher.the_row J R P) → IsSend (viewed.the_row J S R K Z P C D)
  viewed_sends s p =
      let i : IsSend (inside.the_row J S R K Z P C D) = recorded_send (inside.the_field J S R K Z P C D).row _ _ (inside.the_type J S R K Z P C D).to_one (struct_send (declared.shape (inside.the_type J S R K Z P C D)) (serving_sends s, (p, tt))) in
      view_send _ _ _ _ _ i
