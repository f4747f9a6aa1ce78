-- What the lines of a node revision can say.
use Rattle.std.specs.Prelude.{◌≡◌, ◌<◌, ◌^◌, true, IfSome}
use Rattle.fsfs_text.specs.{Splits.is_free, Fits.{IdFits, RepresentationFits}, declared.place.Place.Place}
use Rattle.fsfs_nodes.specs.declared.node.FileNode.{FileNode}

-- a path without line feeds
pub record PlaceFits (place : Place) : Type 0 where
  pub revision : place.revision < 2 ^ 32
  pub path : is_free 10 place.path ≡ true

pub record NodeFits (node : FileNode) : Type 0 where
  pub id : IdFits node.id
  pub predecessor : IfSome node.predecessor IdFits
  pub count : node.count < 2 ^ 64
  pub text : IfSome node.text RepresentationFits
  pub properties : IfSome node.properties RepresentationFits
  pub path : is_free 10 node.path ≡ true
  pub copyfrom : IfSome node.copyfrom PlaceFits
  pub copyroot : IfSome node.copyroot PlaceFits
