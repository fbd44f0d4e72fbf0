mod Hosted
