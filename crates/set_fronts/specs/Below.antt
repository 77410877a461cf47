-- Names of the crates below, passed on, so that the crates above need not name each of those.
pub use Rattle.set_messages.specs.Fitting.{FitsLine}
pub use Rattle.set_messages.specs.Nodes.{Client, Server, beginning, nodes}
pub use Rattle.set_messages.specs.World.{messages_after}
pub use Rattle.set_world.specs.Texts.{client_config, member, server_config, support_of, uri_text, url_text}
unfoldable pub use Rattle.set_world.specs.Texts.{members, urls}
