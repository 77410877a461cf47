-- Names of the crates below, passed on, so that the crates above need not name each of those.
pub use Rattle.set_fronts.specs.Below.{Client, FitsLine, Server, beginning, client_config, member, server_config, support_of, uri_text, url_text}
unfoldable pub use Rattle.set_fronts.specs.Below.{members, urls}
pub use Rattle.set_fronts.specs.Fronts.{AllFronts, AllMeet, AreCounted, AreNumbered, IsFront, connections_of}
pub use Rattle.set_fronts.specs.Lives.{before, over_after, over_at, over_by}
pub use Rattle.set_fronts.specs.Noting.{Accepted, NotedClient, NotedLife, Talked, noted_client, noted_life, noting, on_newest, puts, takes}
